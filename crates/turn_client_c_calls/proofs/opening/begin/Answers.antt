use Rattle.std.proofs.Common.{◌≡◌, Some, Option, subst, sym, ap, ◌∙◌}
use Rattle.std.specs.Prelude.{Result, Ok, Err, IfOk, IfSome}
use Rattle.std.specs.Result.{result_ok}
use Rattle.turn_client_proto_api.specs.Config.{Config}
use Rattle.turn_client_c_types.specs.Settings.{config_of}
use Rattle.turn_client_c_calls.specs.Opened.{IsStarted}
use Rattle.turn_client_c_calls.specs.declared.whole.HandleState.{HandleState}
use Rattle.turn_client_c_calls.proofs.opening.begin.Goals as goal

-- What holds of the value of a result holds of the value taken out of it.
taken : {A E : Type 0} (r : Result A E) (a : A) (P : A → Type 0) → Some a ≡ result_ok r → IfOk r P → P a
taken (Ok b) a P is holds = let same : b ≡ a = Prim.cc (sym is) in subst P same holds
taken (Err e) a P is holds = absurd (Prim.cc is)

if_some : {A E : Type 0} (r : Result A E) (o : Option A) (P Q : A → Type 0) → o ≡ result_ok r → ((a : A) → P a → Q a) → IfOk r P → IfSome o Q
if_some (Ok b) o P Q is more holds = subst (λ (x : Option _). IfSome x Q) (sym is) (more b holds)
if_some (Err e) o P Q is more holds = subst (λ (x : Option _). IfSome x Q) (sym is) tt

-- The client in the box is the one that the settings made.
pub returns : goal.returns
returns c =
    let config : Config = config_of c.args.settings.now c.args.peers (record { username = c.args.username.now; password = c.args.password.now }) in
    let config-is = taken c.config.result c.in_ok-config.config _ c.in_ok-config.ensures.value c.config.ensures in
    let started = taken c.make.result c.in_ok-client.client _ c.in_ok-client.ensures.value c.make.ensures in
    let own = subst (λ (k : Config). IsStarted c.args.transport c.args.local c.args.server k c.args.seed c.in_ok-client.client) config-is started in
    if_some c.new.result c.ok-3.result _ _ c.ok-3.ensures.value (λ b e. (
      ap (λ (w : HandleState). w.joined.items) e ∙ c.new-joined.ensures.items,
      subst (λ (w : HandleState). IsStarted c.args.transport c.args.local c.args.server config c.args.seed w.client) (sym e) own,
    )) c.new.ensures.ok
