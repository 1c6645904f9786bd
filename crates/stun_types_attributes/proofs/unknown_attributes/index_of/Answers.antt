use Rattle.std.proofs.Common.{◌≡◌, ◌≤◌, ◌+◌, ◌*◌, ℕ, List, length, get_or, take, ap, ◌∙◌, arith}
use Rattle.stun_types_auth_attributes.specs.Write.Adding.{has_kind}
use Rattle.stun_types_attributes.specs.TypeMarks.{is_marked}
use Rattle.stun_types_attributes.specs.UnknownTypes.{types_decoded}
use Rattle.stun_types_attributes.proofs.TypeMarks.{next_marked, all_marked}
use Rattle.stun_types_attributes.proofs.unknown_attributes.index_of.Goals as goal

pub loop-pair-preserved : goal.loop-pair-preserved
loop-pair-preserved c = λ kind.
    let left = c.loop-pair.left.now in
    let first : c.from_be_bytes.result ≡ get_or (take 2 left) 0 0 * 256 + get_or (take 2 left) 1 0 = c.from_be_bytes.ensures ∙ ap (λ (l : List ℕ). get_or l 0 0 * 256 + get_or l 1 0) c.in-Some.ensures.cases.0 in
    let long : 2 ≤ length left = omega (arith, c.in-Some.ensures.cases.2) in
    rw c.in-Some.ensures.cases.1 (next_marked left kind c.from_be_bytes.result (is_marked c.mark.new.self kind) (is_marked c.loop-pair.index kind) (has_kind kind (types_decoded c.args.bytes.now)) long first (c.mark.ensures kind) (c.loop-pair.invariant kind))

pub returns : goal.returns
returns c = λ kind. all_marked c.loop-pair.left.now kind (is_marked c.loop-pair.index kind) (has_kind kind (types_decoded c.args.bytes.now)) c.in_default.ensures.cases (c.loop-pair.invariant kind)
