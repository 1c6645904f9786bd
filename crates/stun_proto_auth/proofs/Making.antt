-- The steps of an addition, one after another.
use Rattle.std.proofs.Common.{◌≡◌, ℕ, ◌+◌, ◌<◌, ◌≤◌, List, [], ◌∷◌, ◌++◌, length, drop, get_or, Option, Some, None, refl, sym, ap, ◌∙◌, subst, drop_of_length-le}
use Rattle.std.specs.Prelude.{IsSome}
use Rattle.std.specs.Option.{option_or}
use Rattle.stun_types_message.specs.Base.Refusals.{IsCause}
use Rattle.stun_types_message.specs.Wire.declared.error.StunWriteError.{StunWriteError}
use Rattle.stun_types_message.specs.Wire.declared.error.StunWriteError.TheVariants.{NoMemory}
use Rattle.stun_types_message.specs.Write.Adding.{IsStarted}
use Rattle.stun_types_message.specs.Write.Drafts.{Draft}
use Rattle.stun_types_message.specs.Write.Outcomes.{added, IsAdded}
use Rattle.stun_types_message.specs.Integrity.Credentials.{Key}
use Rattle.stun_types_message.specs.Integrity.Signing.{signature, signing_refusal}
use Rattle.stun_types_message.proofs.Add.Taken.{after_both, both_accepted, written_more}
use Rattle.stun_types_message.specs.Add.Calls.{Add, AreAccepted, IsWritten, after_calls}
use Rattle.stun_proto_auth.specs.Addition.{Addition, PartOf, addition_refusal, attr_of_part, calls_of, calls_of_parts, calls_of_signer, no_addition, one_refusal, parts_refusal, signer_refusal}
use Rattle.stun_proto_auth.specs.AdditionStages.{AreAdded, IsMade, IsNamed, PartsFit, signing_refusal_after}
use Rattle.stun_proto_auth.proofs.Reaching.{next_of, signing_after}

-- ---- what is accepted

or_none : (a b : Option StunWriteError) → option_or a b ≡ None → (a ≡ None) × (b ≡ None)
or_none None b h = (refl, h)
or_none (Some e) b h = absurd (cc h)

-- Parts that are not refused are accepted in turn.
parts_accepted : (parts : List PartOf) (draft : Draft) → parts_refusal draft parts ≡ None → AreAccepted (calls_of_parts parts) draft
unfolding parts_refusal AreAccepted
parts_accepted [] draft h = tt
parts_accepted (p ∷ rest) draft h =
    let both = or_none (one_refusal draft p) (parts_refusal (added (attr_of_part p) draft) rest) h in
    ((or_none _ _ both.0).1, parts_accepted rest (added (attr_of_part p) draft) both.1)

signer_accepted : (signer : Option Key) (draft : Draft) → signer_refusal draft signer ≡ None → AreAccepted (calls_of_signer signer) draft
unfolding AreAccepted
signer_accepted None draft h = tt
signer_accepted (Some key) draft h = (h, tt)

-- An addition that is not refused is accepted.
addition_accepted : (a : Addition) (draft : Draft) → addition_refusal a draft ≡ None → AreAccepted (calls_of a) draft
addition_accepted a draft h =
    let both = or_none (parts_refusal draft a.parts) (signer_refusal (after_calls (calls_of_parts a.parts) draft) a.signer) h in
    both_accepted (calls_of_parts a.parts) (calls_of_signer a.signer) draft (parts_accepted a.parts draft both.0) (signer_accepted a.signer (after_calls (calls_of_parts a.parts) draft) both.1)

-- If the parts are accepted, the first one is, and so are those after it.
head_accepted : (p : PartOf) (rest : List PartOf) (draft : Draft) → parts_refusal draft (p ∷ rest) ≡ None → one_refusal draft p ≡ None
unfolding parts_refusal
head_accepted p rest draft h = (or_none (one_refusal draft p) (parts_refusal (added (attr_of_part p) draft) rest) h).0

tail_accepted : (p : PartOf) (rest : List PartOf) (draft new : Draft) → parts_refusal draft (p ∷ rest) ≡ None → new ≡ added (attr_of_part p) draft → parts_refusal new rest ≡ None
unfolding parts_refusal
tail_accepted p rest draft new h is =
    ap (λ (d : Draft). parts_refusal d rest) is ∙ (or_none (one_refusal draft p) (parts_refusal (added (attr_of_part p) draft) rest) h).1

-- ---- one part after another

-- Loop state: the parts before `left` were added, and those in `left` are accepted.
pub record IsUnderWay (all left : List PartOf) (old now : Draft) : Type 0 where
  pub accepted : parts_refusal now left ≡ None
  pub ends : after_calls (calls_of_parts left) now ≡ after_calls (calls_of_parts all) old
  pub started : IsStarted now.bytes
  pub limit : now.limit ≡ old.limit

pub underway_first : (all : List PartOf) (old : Draft) → IsStarted old.bytes → parts_refusal old all ≡ None → IsUnderWay all all old old
underway_first all old started accepted = record { accepted = accepted; ends = refl; started = started; limit = refl }

underway_next : (all rest : List PartOf) (p : PartOf) (old now new : Draft) → IsUnderWay all (p ∷ rest) old now → IsAdded (attr_of_part p) now new → IsUnderWay all rest old new
unfolding after_calls
underway_next all rest p old now new way more = record {
  accepted = tail_accepted p rest now new way.accepted more.is;
  ends = ap (λ (d : Draft). after_calls (calls_of_parts rest) d) more.is ∙ way.ends;
  started = more.started;
  limit = ap (λ (d : Draft). d.limit) more.is ∙ way.limit;
}

at_index : (all : List PartOf) (index : ℕ) (p d : PartOf) (old now : Draft) → index < length all → p ≡ get_or all index d → IsUnderWay all (drop index all) old now → IsUnderWay all (p ∷ drop (index + 1) all) old now
at_index all index p d old now below is way = subst (λ (left : List PartOf). IsUnderWay all left old now) (next_of all index p d below is) way

-- The part at an index is accepted.
pub underway_accepted : (all : List PartOf) (index : ℕ) (p d : PartOf) (old now : Draft) → index < length all → p ≡ get_or all index d → IsUnderWay all (drop index all) old now → one_refusal now p ≡ None
underway_accepted all index p d old now below is way =
    head_accepted p (drop (index + 1) all) now (at_index all index p d old now below is way).accepted

pub underway_step : (all : List PartOf) (index : ℕ) (p d : PartOf) (old now new : Draft) → index < length all → p ≡ get_or all index d
    → IsUnderWay all (drop index all) old now → IsAdded (attr_of_part p) now new → IsUnderWay all (drop (index + 1) all) old new
underway_step all index p d old now new below is way more =
    underway_next all (drop (index + 1) all) p old now new (at_index all index p d old now below is way) more

all_added : (all : List PartOf) (old now : Draft) → IsUnderWay all [] old now → AreAdded all old now
unfolding after_calls
all_added all old now way = record { is = way.ends; started = way.started; limit = way.limit }

pub underway_end : (all : List PartOf) (index : ℕ) (old now : Draft) → length all ≤ index → IsUnderWay all (drop index all) old now → AreAdded all old now
underway_end all index old now end way =
    all_added all old now (subst (λ (left : List PartOf). IsUnderWay all left old now) (drop_of_length-le all end) way)

-- A writer with a size limit still has one.
pub stored_limit : (old now : Draft) → now.limit ≡ old.limit → IsSome old.limit → IsSome now.limit
stored_limit old now same has = subst (λ (l : Option ℕ). IsSome l) (sym same) has

-- ---- what is refused

-- An error other than `NoMemory` is the error of the refusal.
pub is_cause : (refusal : Option StunWriteError) (error : StunWriteError) → IsNamed refusal error → IsCause NoMemory refusal error
is_cause refusal error named = record { named = λ other. named.cause; last = λ same. absurd (named.named same) }

-- If a part is refused, the addition is refused with that error.
pub parts_decide : (a : Addition) (draft : Draft) (error : StunWriteError) → IsNamed (parts_refusal draft a.parts) error → IsNamed (addition_refusal a draft) error
parts_decide a draft error refused = record { cause = rw refused.cause refl; named = refused.named }

-- Without a key, an addition is accepted if its parts are.
pub parts_accept : (parts : List PartOf) (draft : Draft) → parts_refusal draft parts ≡ None → addition_refusal (record { parts = parts; signer = None }) draft ≡ None
parts_accept parts draft accepted = rw accepted refl

-- If the parts fit, the addition is refused exactly if the integrity attribute is.
pub signer_decides : (parts : List PartOf) (key : Key) (draft : Draft) (size : ℕ) → PartsFit draft parts size
    → addition_refusal (record { parts = parts; signer = Some key }) draft ≡ signing_refusal_after draft size key.algorithm
signer_decides parts key draft size fits =
    ap (λ (o : Option StunWriteError). option_or o (signing_refusal (after_calls (calls_of_parts parts) draft) key.algorithm key.algorithm)) fits.accepted
    ∙ signing_after size draft (after_calls (calls_of_parts parts) draft) key.algorithm fits.grown

pub signer_refused : (parts : List PartOf) (key : Key) (draft : Draft) (size : ℕ) (error : StunWriteError) → PartsFit draft parts size
    → IsNamed (signing_refusal_after draft size key.algorithm) error → IsNamed (addition_refusal (record { parts = parts; signer = Some key }) draft) error
signer_refused parts key draft size error fits refused = record { cause = signer_decides parts key draft size fits ∙ refused.cause; named = refused.named }

pub signer_accepts : (parts : List PartOf) (key : Key) (draft : Draft) (size : ℕ) → PartsFit draft parts size
    → signing_refusal_after draft size key.algorithm ≡ None → addition_refusal (record { parts = parts; signer = Some key }) draft ≡ None
signer_accepts parts key draft size fits room = signer_decides parts key draft size fits ∙ room

-- Once the parts are added, the integrity attribute is accepted if the addition was.
pub signer_left : (parts : List PartOf) (key : Key) (old middle : Draft) → addition_refusal (record { parts = parts; signer = Some key }) old ≡ None → AreAdded parts old middle → signing_refusal middle key.algorithm key.algorithm ≡ None
signer_left parts key old middle accepted parts-added =
    ap (λ (d : Draft). signer_refusal d (Some key)) parts-added.is
    ∙ (or_none (parts_refusal old parts) (signer_refusal (after_calls (calls_of_parts parts) old) (Some key)) accepted).1

-- If nothing is refused, the only possible error is `NoMemory`.
pub memory_left : (refusal other : Option StunWriteError) (error : StunWriteError) → refusal ≡ None → other ≡ None → IsCause NoMemory other error → IsCause NoMemory refusal error
memory_left refusal other error is same cause = subst (λ (o : Option StunWriteError). IsCause NoMemory o error) (same ∙ sym is) cause

-- ---- what is made

-- The parts were added, and the message was not signed.
pub unsigned : (parts : List PartOf) (old new : Draft) → parts_refusal old parts ≡ None → AreAdded parts old new → IsMade (record { parts = parts; signer = None }) old new
unfolding after_calls
unsigned parts old new accepted parts-added = record {
  accepted = addition_accepted (record { parts = parts; signer = None }) old (parts_accept parts old accepted);
  is = parts-added.is ∙ sym (after_both (calls_of_parts parts) [] old);
  started = parts-added.started;
}

-- The parts were added, and the message was signed.
pub signed : (parts : List PartOf) (key : Key) (old middle new : Draft) → addition_refusal (record { parts = parts; signer = Some key }) old ≡ None → AreAdded parts old middle
    → IsAdded (signature key.algorithm key.bytes middle.bytes) middle new → IsMade (record { parts = parts; signer = Some key }) old new
unfolding after_calls
signed parts key old middle new accepted parts-added sealed = record {
  accepted = addition_accepted (record { parts = parts; signer = Some key }) old accepted;
  is = sealed.is
      ∙ ap (λ (d : Draft). after_calls (calls_of_signer (Some key)) d) parts-added.is
      ∙ sym (after_both (calls_of_parts parts) (calls_of_signer (Some key)) old);
  started = sealed.started;
}

-- Nothing was added.
pub nothing : (draft : Draft) → IsStarted draft.bytes → IsMade no_addition draft draft
unfolding AreAccepted after_calls
nothing draft started = record { accepted = tt; is = refl; started = started }

-- If a message is the result of calls and an addition was made to it, the new message is the result of these
-- calls and those of the addition.
pub made_written : (mtype number : ℕ) (calls : List Add) (made : Addition) (old new : Draft) → IsWritten mtype number calls old → IsMade made old new → IsWritten mtype number (calls ++ calls_of made) new
made_written mtype number calls made old new written m = written_more mtype number calls (calls_of made) old new written m.accepted m.is
