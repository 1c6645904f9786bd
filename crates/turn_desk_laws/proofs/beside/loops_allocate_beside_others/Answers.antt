use Rattle.std.proofs.Common.{◌≡◌, List, [], ◌∷◌, refl, subst, inl}
use Rattle.turn_client_proto_api.specs.declared.event.TurnEvent.{TurnEvent}
use Rattle.turn_desk_event.specs.declared.event.Event.TheVariants.{Draw}
use Rattle.turn_desk_progress_laws.specs.Promises.{HasCome}
use Rattle.turn_desk_laws.specs.Beside.{seen_from}
use Rattle.turn_desk_laws.proofs.BesideSeen.{at_any_desk, come, seen_step}
use Rattle.turn_desk_laws.proofs.beside.loops_allocate_beside_others.Goals as goal

pub returns-clause-promised : goal.returns-clause-promised
returns-clause-promised c = λ plan old new without pairs position may none run beside is.
    let here = plan.client.here in
    let r = c.other_addresses_change_nothing.ensures.alone (here ∷ []) old new without pairs none run beside in
    let has = c.honest_loops_allocate.ensures.promised plan old (record new { desk = r.left }) without position may r.run is in
    let same = c.other_addresses_change_nothing.ensures.reported (here ∷ []) old new without pairs run beside in
    come plan old new r.left (r.alike here (inl refl)) _ position.progress (subst (λ (l : List TurnEvent). HasCome plan old l position.progress (record new { desk = r.left })) same has)

pub returns-clause-sendings : goal.returns-clause-sendings
returns-clause-sendings c = λ plan old w v without pairs position next now ret may none run beside is leads step.
    let r = c.other_addresses_change_nothing.ensures.alone (plan.client.here ∷ []) old w without pairs none run beside in
    c.honest_loops_allocate.ensures.sendings plan old (record w { desk = r.left }) (record v { desk = r.left }) without position next now ret may r.run is leads
    (at_any_desk (Draw now) w v r.left ret tt step)

pub returns-clause-seen : goal.returns-clause-seen
returns-clause-seen c = λ address w v event ret is step. seen_step address w v event ret is step
