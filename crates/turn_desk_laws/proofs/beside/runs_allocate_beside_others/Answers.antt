use Rattle.std.proofs.Common.{◌≡◌, List, [], ◌∷◌, refl, subst, ◌∙◌, inl}
use Rattle.turn_client_proto_api.specs.declared.event.TurnEvent.{TurnEvent}
use Rattle.turn_desk_progress_laws.specs.Promises.{HasCome}
use Rattle.turn_desk_laws.proofs.BesideSeen.{come}
use Rattle.turn_desk_laws.proofs.beside.runs_allocate_beside_others.Goals as goal

pub returns-clause-honest : goal.returns-clause-honest
returns-clause-honest c = λ plan old new without pairs progress fresh none run beside is.
    let here = plan.client.here in
    let r = c.other_addresses_change_nothing.ensures.alone (here ∷ []) old new without pairs none run beside in
    let has = c.honest_runs_allocate.ensures.promised plan old (record new { desk = r.left }) without progress fresh r.run is in
    let same = c.other_addresses_change_nothing.ensures.reported (here ∷ []) old new without pairs run beside in
    come plan old new r.left (r.alike here (inl refl)) _ progress (subst (λ (l : List TurnEvent). HasCome plan old l progress (record new { desk = r.left })) same has)

pub returns-clause-hardened : goal.returns-clause-hardened
returns-clause-hardened c = λ plan old new honest without pairs progress hard fresh none run beside put is.
    let here = plan.client.here in
    let r = c.other_addresses_change_nothing.ensures.alone (here ∷ []) old new without pairs none run beside in
    let has = c.hardened_runs_allocate.ensures.promised plan old (record new { desk = r.left }) honest without progress hard fresh r.run put is in
    let same = c.other_addresses_change_nothing.ensures.reported (here ∷ []) old new without pairs run beside in
    come plan old new r.left (r.alike here (inl refl)) _ progress (subst (λ (l : List TurnEvent). HasCome plan old l progress (record new { desk = r.left })) same has)
