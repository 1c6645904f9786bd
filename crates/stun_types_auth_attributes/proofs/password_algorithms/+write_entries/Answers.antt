use Rattle.std.proofs.Common.{ℕ, List, ◌++◌, ◌*◌, length, drop, sym, ap, ◌∙◌}
use Rattle.stun_types_auth_attributes.specs.declared.algorithm.PasswordAlgorithmValue.{PasswordAlgorithmValue}
use Rattle.stun_types_auth_attributes.specs.Entries.{algorithm_value, algorithms_value}
use Rattle.stun_types_auth_attributes.proofs.Lists.{more_written}
use Rattle.stun_types_auth_attributes.proofs.password_algorithms.+write_entries.Goals as goal

pub returns-in-Some : goal.returns-in-Some
returns-in-Some t c =
    let first = c.in-Some.first.now in
    let rest = c.in-Some.rest.now in
    let dest = c.args.dest.now in
    let head = c.copy_from_slice.ensures.after ∙ c.to_bytes.ensures in
    let back = c.write_entries.ensures ∙ ap (λ (l : List ℕ). algorithms_value rest ++ drop (4 * length rest) l) c.split_at_mut-entry.ensures.back in
    let all = c.in-Some.ensures.cases.0 in
    ap (λ (l : List ℕ). l ++ c.write_entries.new.dest) head
    ∙ (ap (λ (l : List ℕ). algorithm_value first ++ l) back
    ∙ (more_written first rest dest
    ∙ ap (λ (l : List PasswordAlgorithmValue). algorithms_value l ++ drop (4 * length l) dest) (sym all)))
