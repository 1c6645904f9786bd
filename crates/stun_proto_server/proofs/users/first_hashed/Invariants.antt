use Rattle.std.proofs.Common.{◌≡◌}
use Rattle.std.specs.Prelude.{nat_eq}
use Rattle.std.specs.Cmp.Lexicographic.{pointwise}
use Rattle.std.specs.List.{find}
use Rattle.stun_proto_server.proofs.users.first_hashed.Given as goal

-- The first match among the remaining users is the first of all.
abbrev pub invariant-loop-name : goal.invariant-loop-name
invariant-loop-name l =
    (goal.iterator-loop-name).can_next l.name-iterator ×
    (goal.iterator-loop-name).is_finite l.name-iterator ×
    (find (λ user. pointwise nat_eq l.fn.hash user.1.hash) l.name-iterator
    ≡ find (λ user. pointwise nat_eq l.fn.hash user.1.hash) l.fn.users.entries)
