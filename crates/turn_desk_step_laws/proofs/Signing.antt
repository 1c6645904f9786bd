-- What a server core signs, and under which key.
use Rattle.std.proofs.Common.{◌≡◌, ℕ, ◌+◌, List, [], ◌∷◌, ◌++◌, refl, sym, ap, ◌∙◌, subst, arith}
use Rattle.std.specs.List.{AllByRecursion}
use Rattle.std.specs.declared.net.socket_addr.SocketAddr.{SocketAddr}
use Rattle.turn_desk_core.specs.StunTypesWire.Attributes.{Attr, attr_size, numbered}
use Rattle.turn_desk_core.specs.StunTypesWire.Covered.{covered_text}
use Rattle.turn_desk_core.specs.StunTypesWire.Grammar.{visible}
use Rattle.turn_client_proto_messages.specs.StunTypesIntegrity.Integrity.{Validates, attribute_kind}
use Rattle.turn_desk_core.specs.StunTypesWire.declared.algorithm.IntegrityAlgorithm.{IntegrityAlgorithm}
use Rattle.turn_desk_core.specs.StunTypesWire.declared.algorithm.IntegrityAlgorithm.TheVariants.{Sha1, Sha256, Sha512}
use Rattle.turn_desk_core.specs.StunTypesWire.Shape.{rank}
use Rattle.turn_desk_core.specs.Replies.{relayed_attributes}
use Rattle.turn_desk_core.specs.Verdicts.{reply_attributes}
use Rattle.turn_desk_core.specs.declared.verdict.Verdict.{Verdict}
use Rattle.turn_desk_core.specs.declared.verdict.Verdict.TheVariants.{Fails, Allocates, Refreshes, Permits, Binds, Connects, Joins}
use Rattle.turn_runs_laws.specs.TurnRuns.StunWire.{Cover}

-- ---- where the integrity attribute stands

abbrev ArePlain : List Attr → Type 0
ArePlain all = AllByRecursion (λ (a : Attr). rank a.kind ≡ 0) all

-- The offset after these attributes.
abbrev index : ℕ → List Attr → ℕ
index offset [] = offset
index offset (a ∷ all) = index (offset + attr_size a) all

-- After plain attributes, one that isn't plain is at one offset.
only_there : (all : List Attr) (seal : Attr) (offset : ℕ) (before : List (ℕ × Attr)) (e : ℕ × Attr) (following : List (ℕ × Attr)) → ArePlain all → (rank e.1.kind ≡ 0 → ⊥) → numbered offset (all ++ seal ∷ []) ≡ before ++ e ∷ following → e ≡ (index offset all, seal)
only_there [] seal offset [] e following plain marked is = Prim.cc is
only_there [] seal offset (b ∷ []) e following plain marked is = absurd (Prim.cc is)
only_there [] seal offset (b ∷ c ∷ before) e following plain marked is = absurd (Prim.cc is)
only_there (a ∷ all) seal offset [] e following plain marked is =
    let same : (offset, a) ≡ e = Prim.cc is in
    absurd (marked (subst (λ (x : ℕ × Attr). rank x.1.kind ≡ 0) same plain.0))
only_there (a ∷ all) seal offset (b ∷ before) e following plain marked is =
    only_there all seal (offset + attr_size a) before e following plain.1 marked (Prim.cc is)

no_plain : (algorithm : IntegrityAlgorithm) → rank (attribute_kind algorithm) ≡ 0 → ⊥
no_plain Sha1 h = Prim.cc h
no_plain Sha256 h = Prim.cc h
no_plain Sha512 h = Prim.cc h

same_algorithm : (a b : IntegrityAlgorithm) → attribute_kind a ≡ attribute_kind b → a ≡ b
same_algorithm Sha1 Sha1 h = refl
same_algorithm Sha1 Sha256 h = absurd (omega (arith, h))
same_algorithm Sha1 Sha512 h = absurd (omega (arith, h))
same_algorithm Sha256 Sha1 h = absurd (omega (arith, h))
same_algorithm Sha256 Sha256 h = refl
same_algorithm Sha256 Sha512 h = absurd (omega (arith, h))
same_algorithm Sha512 Sha1 h = absurd (omega (arith, h))
same_algorithm Sha512 Sha256 h = absurd (omega (arith, h))
same_algorithm Sha512 Sha512 h = refl

-- In a message with one integrity attribute after plain ones, what that covers is what validates.
pub record IsTheText (one other : IntegrityAlgorithm) (text covered : List ℕ) : Type 0 where
  pub same_algorithm : one ≡ other
  pub same_text : text ≡ covered

pub only_text : (reply : List ℕ) (all : List Attr) (seal : Attr) (key : List ℕ) (algorithm other : IntegrityAlgorithm) (text covered : List ℕ) → visible reply ≡ all ++ seal ∷ [] → ArePlain all → Validates reply key algorithm text → Cover reply other covered → IsTheText algorithm other text covered
only_text reply all seal key algorithm other text covered shows plain valid cover =
    let v = valid.signed in
    let c = cover.signed in
    let list = ap (λ (l : List Attr). numbered 20 l) (sym shows) in
    let one = only_there all seal 20 v.before (v.offset, v.attribute) v.following plain (λ p. no_plain algorithm (ap rank (sym v.kind) ∙ p)) (list ∙ v.shows) in
    let two = only_there all seal 20 c.before (c.offset, c.attribute) c.following plain (λ p. no_plain other (ap rank (sym c.kind) ∙ p)) (list ∙ c.shows) in
    let both : (v.offset, v.attribute) ≡ (c.offset, c.attribute) = one ∙ sym two in
    record {
      same_algorithm = same_algorithm algorithm other (sym v.kind ∙ ap (λ (x : ℕ × Attr). x.1.kind) both ∙ c.kind);
      same_text = v.covered ∙ ap (λ (x : ℕ × Attr). covered_text reply x.0) both ∙ sym c.covered;
    }

-- ---- what a reply shows before it

relayed_plain : (number : ℕ) (relayed : List SocketAddr) (following : List Attr) → ArePlain following → ArePlain (relayed_attributes number relayed ++ following)
relayed_plain number [] following plain = plain
relayed_plain number (addr ∷ relayed) following plain = (refl, relayed_plain number relayed following plain)

pub reply_plain : (bytes : List ℕ) (from : SocketAddr) (what : Verdict) → ArePlain (reply_attributes bytes from what)
reply_plain bytes from (Fails code) = (refl, tt)
reply_plain bytes from (Allocates transport relayed lifetime) = relayed_plain _ relayed _ (refl, (refl, tt))
reply_plain bytes from (Refreshes lifetime) = (refl, tt)
reply_plain bytes from (Permits peers) = tt
reply_plain bytes from (Binds channel peer) = tt
reply_plain bytes from (Connects peer connection) = (refl, tt)
reply_plain bytes from (Joins connection) = tt
