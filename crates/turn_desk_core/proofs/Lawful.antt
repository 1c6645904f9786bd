-- A verdict has a code that an error response can carry, or at most two addresses.
use Rattle.std.specs.Prelude.{◌≡◌, ◌≤◌, ℕ, Bool, true, false, nat_lt, ◌||◌, List, [], ◌∷◌, length, Option, Some, None}
use Rattle.std.proofs.Common.{refl, arith, inl, inr}
use Rattle.std.proofs.lemmas.Bool.{cases_Bool, ltb-false}
use Rattle.std.specs.declared.net.socket_addr.SocketAddr.{SocketAddr}
use Rattle.turn_desk_core.specs.declared.requested.Requested.{Requested}
use Rattle.turn_desk_core.specs.declared.requested.Requested.TheVariants.{Allocation, Refreshment, Permissions, Channel, Connection, Binding}
use Rattle.turn_desk_core.specs.declared.decision.Decision.{Decision}
use Rattle.turn_desk_core.specs.declared.decision.Decision.TheVariants.{Refuse, Allocate, Refresh, Connect, Grant}
use Rattle.turn_desk_core.specs.Verdicts.{IsLawful, IsLawfulCode, are_relayable, decided, fitted, misfit, refused_code, verdict}

misfit_lawful : IsLawful misfit
misfit_lawful = record { least = omega arith; most = omega arith }

few_relayable : (addresses : List SocketAddr) → are_relayable addresses ≡ true → length addresses ≤ 2
few_relayable [] fits = omega arith
few_relayable (a ∷ []) fits = omega arith
few_relayable (a ∷ b ∷ []) fits = omega arith
few_relayable (a ∷ b ∷ c ∷ rest) fits = absurd (Prim.cc fits)

both_false : (a b : Bool) → (a || b) ≡ false → (a ≡ false) × (b ≡ false)
both_false true b h = absurd (Prim.cc h)
both_false false b h = (refl, h)

code_lawful : (code : ℕ) → IsLawfulCode (refused_code code)
code_lawful code =
    elim (cases_Bool (nat_lt code 300 || nat_lt 699 code)) [
      | inl out ↦ rw out misfit_lawful
      | inr inside ↦
          let both = both_false (nat_lt code 300) (nat_lt 699 code) inside in
          rw inside (record { least = ltb-false code 300 both.0; most = ltb-false 699 code both.1 })
    ]

fitted_lawful : (reported : Requested) (decision : Decision) → IsLawful (fitted reported decision)
fitted_lawful (Allocation t) (Refuse code) = misfit_lawful
fitted_lawful (Allocation t) (Allocate addresses lifetime) =
    elim (cases_Bool (are_relayable addresses)) [
      | inl fits ↦ rw fits (few_relayable addresses fits)
      | inr not ↦ rw not misfit_lawful
    ]
fitted_lawful (Allocation t) (Refresh lifetime) = misfit_lawful
fitted_lawful (Allocation t) (Connect number) = misfit_lawful
fitted_lawful (Allocation t) Grant = misfit_lawful
fitted_lawful Refreshment (Refuse code) = misfit_lawful
fitted_lawful Refreshment (Allocate addresses lifetime) = misfit_lawful
fitted_lawful Refreshment (Refresh lifetime) = tt
fitted_lawful Refreshment (Connect number) = misfit_lawful
fitted_lawful Refreshment Grant = misfit_lawful
fitted_lawful (Permissions ps) (Refuse code) = misfit_lawful
fitted_lawful (Permissions ps) (Allocate addresses lifetime) = misfit_lawful
fitted_lawful (Permissions ps) (Refresh lifetime) = misfit_lawful
fitted_lawful (Permissions ps) (Connect number) = misfit_lawful
fitted_lawful (Permissions ps) Grant = tt
fitted_lawful (Channel ch p) (Refuse code) = misfit_lawful
fitted_lawful (Channel ch p) (Allocate addresses lifetime) = misfit_lawful
fitted_lawful (Channel ch p) (Refresh lifetime) = misfit_lawful
fitted_lawful (Channel ch p) (Connect number) = misfit_lawful
fitted_lawful (Channel ch p) Grant = tt
fitted_lawful (Connection p) (Refuse code) = misfit_lawful
fitted_lawful (Connection p) (Allocate addresses lifetime) = misfit_lawful
fitted_lawful (Connection p) (Refresh lifetime) = misfit_lawful
fitted_lawful (Connection p) (Connect number) = tt
fitted_lawful (Connection p) Grant = misfit_lawful
fitted_lawful (Binding cn) (Refuse code) = misfit_lawful
fitted_lawful (Binding cn) (Allocate addresses lifetime) = misfit_lawful
fitted_lawful (Binding cn) (Refresh lifetime) = misfit_lawful
fitted_lawful (Binding cn) (Connect number) = misfit_lawful
fitted_lawful (Binding cn) Grant = tt

pub decided_lawful : (reported : Requested) (decision : Decision) → IsLawful (decided reported decision)
decided_lawful reported (Refuse code) = code_lawful code
decided_lawful reported (Allocate addresses lifetime) = fitted_lawful reported (Allocate addresses lifetime)
decided_lawful reported (Refresh lifetime) = fitted_lawful reported (Refresh lifetime)
decided_lawful reported (Connect number) = fitted_lawful reported (Connect number)
decided_lawful reported Grant = fitted_lawful reported Grant

pub verdict_lawful : (found : Option Requested) (decision : Decision) → IsLawful (verdict found decision)
verdict_lawful None decision = record { least = omega arith; most = omega arith }
verdict_lawful (Some reported) decision = decided_lawful reported decision
