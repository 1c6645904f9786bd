-- What a writer holds after some calls is read as the attributes that they added.
use Rattle.std.proofs.Common.{◌≡◌, ℕ, ◌+◌, ◌≤◌, ◌<◌, ◌^◌, true, false, eqb, ltb, List, [], ◌∷◌, ◌++◌, length, map, None, Some, refl, sym, ap, subst, ◌∙◌, append_assoc, arith, inl, inr}
use Rattle.std.specs.Prelude.{Bool, ◌||◌, if◌then◌else◌}
use Rattle.std.specs.List.{AllByRecursion}
use Rattle.std.proofs.lemmas.Bool.{cases_Bool, ltb-false}
use Rattle.std.proofs.lemmas.List.{append-nil}
use Rattle.stun_types_attributes.specs.Wire.declared.algorithm.IntegrityAlgorithm.{IntegrityAlgorithm}
use Rattle.stun_types_attributes.specs.Wire.declared.algorithm.IntegrityAlgorithm.TheVariants.{Sha1, Sha256, Sha512}
use Rattle.stun_types_attributes.specs.Wire.Attributes.{Attr, attr_size, padded}
use Rattle.stun_types_attributes.specs.Wire.Fingerprints.{fingerprint_of, shows_fingerprint}
use Rattle.stun_types_attributes.specs.Wire.Shape.{kinds_of, last_rank, may_follow, rank}
use Rattle.stun_types_attributes.specs.Wire.Registry.{fingerprint_kind}
use Rattle.stun_types_attributes.specs.Wire.Text.{FitsAttribute, body_text, header_text, message_text}
use Rattle.stun_types_attributes.specs.Wire.Fingerprinted.{EndsWithFingerprint, HasOwnFingerprint}
use Rattle.stun_types_attributes.specs.Wire.MessageReading.{IsReadAs}
use Rattle.stun_types_attributes.proofs.Wire.Ends.{fit_both}
use Rattle.stun_types_attributes.proofs.Wire.Fingerprints.{fingerprint_size}
use Rattle.stun_types_attributes.proofs.Wire.Longest.{Follows, follows_shape}
use Rattle.stun_types_attributes.proofs.Wire.Written.{written_read}
use Rattle.stun_types_add.specs.Write.declared.ended.Ended.{Ended}
use Rattle.stun_types_add.specs.Write.Adding.{IsStarted, add_refusal, fingerprint_add_refusal, growth_refusal}
use Rattle.stun_types_attributes.specs.Wire.Registry.{greatest_size}
use Rattle.stun_types_add.specs.Write.Drafts.{Draft, ended_by}
use Rattle.stun_types_add.specs.Integrity.Integrity.{Validates, algorithm_of, attribute_kind}
use Rattle.stun_types_add.specs.Integrity.Signing.{has_signed, has_signed_stronger, hmac_length, order_refusal, signature, signing_refusal, text_to_sign}
use Rattle.stun_types_add.specs.Calls.{Add, Ordinary, Integrity, Fingerprint, AreAccepted, IsLawful, IsOrdinary, IsWritten, after_call, after_calls, attribute_of, attributes_after, attributes_of, refusal_of}
use Rattle.stun_types_add.proofs.Adds.{add_started, one_more}
use Rattle.stun_types_add.proofs.Taken.{none_of, text_after}
use Rattle.stun_types_message.specs.UnsignedCalls.{IsNoIntegrity}
use Rattle.stun_types_message.proofs.Signed.{own_fits, signature_length, signed_is_valid, size_of}

-- ---- the order of types

follows_more : (r : ℕ) (all : List Attr) (a : Attr) → Follows r (kinds_of all) → may_follow (last_rank r all) (rank a.kind) ≡ true → Follows r (kinds_of (all ++ a ∷ []))
unfolding last_rank
follows_more r [] a f m = (m, tt)
follows_more r (b ∷ all) a f m = (f.0, follows_more (rank b.kind) all a f.1 m)

last_more : (r : ℕ) (all : List Attr) (a : Attr) → last_rank r (all ++ a ∷ []) ≡ rank a.kind
unfolding last_rank
last_more r [] a = refl
last_more r (b ∷ all) a = last_more (rank b.kind) all a

shows_more : (all : List Attr) (a : Attr) → shows_fingerprint all ≡ false → eqb a.kind fingerprint_kind ≡ false → shows_fingerprint (all ++ a ∷ []) ≡ false
shows_more [] a none other = rw other refl
shows_more (b ∷ all) a none other =
    elim (cases_Bool (eqb b.kind fingerprint_kind)) [
      | inl is ↦ absurd (let p = rw is at none in cc)
      | inr isnt ↦ rw isnt (shows_more all a (rw isnt at none) other)
    ]

-- The rank of the last attribute, given which of the ending attributes were added.
abbrev ended_rank : Ended → ℕ
ended_rank e =
    if e.fingerprint then 4
    else if e.sha512 then 3
    else if e.sha256 then 2
    else if e.integrity then 1
    else 0

or_false : (a b : Bool) → a || b ≡ false → (a ≡ false) × (b ≡ false)
or_false true b h = absurd cc
or_false false b h = (refl, h)

-- ---- what a refusal that is absent says

grown : (draft : Draft) (size : ℕ) → growth_refusal draft size ≡ None → length draft.bytes + size ≤ greatest_size
grown draft size h =
    elim (cases_Bool (ltb greatest_size (length draft.bytes + size))) [
      | inl long ↦ absurd (let p = rw long at h in cc)
      | inr short ↦ ltb-false greatest_size (length draft.bytes + size) short
    ]

-- What holds if an ordinary attribute is accepted.
record NoneEnded (draft : Draft) (size : ℕ) : Type 0 where
  fingerprint : draft.ended.fingerprint ≡ false
  sha512 : draft.ended.sha512 ≡ false
  sha256 : draft.ended.sha256 ≡ false
  integrity : draft.ended.integrity ≡ false
  room : growth_refusal draft size ≡ None

add_decoded : (draft : Draft) (size : ℕ) → add_refusal draft size ≡ None → NoneEnded draft size
unfolding add_refusal
add_decoded draft size h =
    elim (cases_Bool draft.ended.fingerprint) [
      | inl f ↦ absurd (let p = rw f at h in cc)
      | inr f ↦ elim (cases_Bool draft.ended.integrity) [
        | inl i ↦ absurd (let p = rw (f, i) at h in cc)
        | inr i ↦ elim (cases_Bool draft.ended.sha256) [
          | inl s ↦ absurd (let p = rw (f, i, s) at h in cc)
          | inr s ↦ elim (cases_Bool draft.ended.sha512) [
            | inl l ↦ absurd (let p = rw (f, i, s, l) at h in cc)
            | inr l ↦ record { fingerprint = f; sha512 = l; sha256 = s; integrity = i; room = rw (f, i, s, l) at h }
          ]
        ]
      ]
    ]

-- What holds if an integrity attribute is accepted: neither its own nor that of a stronger algorithm was
-- added.
record MaySign (e : Ended) (algorithm : IntegrityAlgorithm) : Type 0 where
  fingerprint : e.fingerprint ≡ false
  own : has_signed e algorithm ≡ false
  stronger : has_signed_stronger e algorithm ≡ false

order_decoded : (e : Ended) (algorithm : IntegrityAlgorithm) → order_refusal e algorithm ≡ None → MaySign e algorithm
unfolding order_refusal
order_decoded e algorithm h =
    elim (cases_Bool e.fingerprint) [
      | inl f ↦ absurd (let p = rw f at h in cc)
      | inr f ↦ elim (cases_Bool (has_signed e algorithm)) [
        | inl o ↦ absurd (let p = rw (f, o) at h in cc)
        | inr o ↦ elim (cases_Bool (has_signed_stronger e algorithm)) [
          | inl s ↦ absurd (let p = rw (f, o, s) at h in cc)
          | inr s ↦ record { fingerprint = f; own = o; stronger = s }
        ]
      ]
    ]

sign_order : (draft : Draft) (algorithm : IntegrityAlgorithm) → signing_refusal draft algorithm algorithm ≡ None → order_refusal draft.ended algorithm ≡ None
unfolding signing_refusal
sign_order draft algorithm h = (elim (order_refusal draft.ended algorithm) as (λ r. order_refusal draft.ended algorithm ≡ r → r ≡ None) [ None ↦ λ e. refl | Some error ↦ λ e. absurd (let p = rw e at h in cc) ]) refl

sign_room : (draft : Draft) (algorithm : IntegrityAlgorithm) → signing_refusal draft algorithm algorithm ≡ None → growth_refusal draft (4 + hmac_length algorithm) ≡ None
unfolding signing_refusal
sign_room draft Sha1 h = rw (sign_order draft Sha1 h) at h
sign_room draft Sha256 h = rw (sign_order draft Sha256 h) at h
sign_room draft Sha512 h = rw (sign_order draft Sha512 h) at h

mark_decoded : (draft : Draft) → fingerprint_add_refusal draft ≡ None → (draft.ended.fingerprint ≡ false) × (growth_refusal draft 8 ≡ None)
unfolding fingerprint_add_refusal
mark_decoded draft h =
    elim (cases_Bool draft.ended.fingerprint) [
      | inl f ↦ absurd (let p = rw f at h in cc)
      | inr f ↦ (f, rw f at h)
    ]

-- ---- what stands after each call

abbrev Own : ℕ → ℕ → List Attr → Bool → Type 0
Own mtype number before true = EndsWithFingerprint mtype number before
Own mtype number before false = shows_fingerprint before ≡ false

-- The invariant of a draft: it encodes attributes in their prescribed order, with a correct FINGERPRINT if it
-- has one.
record IsSound (mtype number : ℕ) (before : List Attr) (draft : Draft) : Type 0 where
  text : draft.bytes ≡ message_text mtype number before
  started : IsStarted draft.bytes
  fits : AllByRecursion FitsAttribute before
  follows : Follows 0 (kinds_of before)
  last : last_rank 0 before ≡ ended_rank draft.ended
  own : Own mtype number before draft.ended.fingerprint

-- Adding an attribute keeps the invariant if the attribute fits, may follow and has the room.
step : (mtype number : ℕ) (before : List Attr) (draft : Draft) (a : Attr) (size : ℕ) → IsSound mtype number before draft → FitsAttribute a → growth_refusal draft size ≡ None → size ≡ attr_size a
    → may_follow (ended_rank draft.ended) (rank a.kind) ≡ true → ended_rank (ended_by draft.ended a.kind) ≡ rank a.kind → Own mtype number (before ++ a ∷ []) (ended_by draft.ended a.kind).fingerprint
    → IsSound mtype number (before ++ a ∷ []) (after_call (Ordinary a) draft)
step mtype number before draft a size s fits room same may rank-is own =
    record {
      text = rw s.text (one_more mtype number before a);
      started = add_started draft.bytes a s.started (subst (λ n. length draft.bytes + n ≤ greatest_size) same (grown draft size room));
      fits = fit_both before (a ∷ []) s.fits (fits, tt);
      follows = follows_more 0 before a s.follows (subst (λ n. may_follow n (rank a.kind) ≡ true) (sym s.last) may);
      last = last_more 0 before a ∙ sym rank-is;
      own = own;
    }

signed_step : (mtype number : ℕ) (before : List Attr) (draft : Draft) (algorithm : IntegrityAlgorithm) (key : List ℕ) → IsSound mtype number before draft → signing_refusal draft algorithm algorithm ≡ None
    → may_follow (ended_rank draft.ended) (rank (attribute_kind algorithm)) ≡ true → ended_rank (ended_by draft.ended (attribute_kind algorithm)) ≡ rank (attribute_kind algorithm)
    → (ended_by draft.ended (attribute_kind algorithm)).fingerprint ≡ false → draft.ended.fingerprint ≡ false → eqb (attribute_kind algorithm) fingerprint_kind ≡ false
    → IsSound mtype number (before ++ signature algorithm key draft.bytes ∷ []) (after_call (Integrity algorithm key) draft)
unfolding signature
signed_step mtype number before draft algorithm key s accepted may rank-is unmarked none other =
    let a = signature algorithm key draft.bytes in
    let size = (size_of algorithm (length a.value) (signature_length algorithm key draft.bytes)).0 in
    let own : shows_fingerprint (before ++ a ∷ []) ≡ false = shows_more before a (subst (λ (b : Bool). Own mtype number before b) none s.own) other in
    step mtype number before draft a (4 + hmac_length algorithm) s (own_fits algorithm key draft.bytes) (sign_room draft algorithm accepted) (sym size) may rank-is
    (subst (λ (b : Bool). Own mtype number (before ++ a ∷ []) b) (sym unmarked) own)

-- If an algorithm's attribute may be added, it may follow the last attribute, which has a lower rank.
after_weaker : (e : Ended) (algorithm : IntegrityAlgorithm) → MaySign e algorithm → may_follow (ended_rank e) (rank (attribute_kind algorithm)) ≡ true
after_weaker e Sha1 m =
    let both = or_false e.sha256 e.sha512 m.stronger in
    rw (m.fingerprint, m.own, both.0, both.1) refl
after_weaker e Sha256 m = elim (cases_Bool e.integrity) [ inl i ↦ rw (m.fingerprint, m.own, m.stronger, i) refl | inr i ↦ rw (m.fingerprint, m.own, m.stronger, i) refl ]
after_weaker e Sha512 m =
    elim (cases_Bool e.sha256) [
      | inl s ↦ rw (m.fingerprint, m.own, s) refl
      | inr s ↦ elim (cases_Bool e.integrity) [ inl i ↦ rw (m.fingerprint, m.own, s, i) refl | inr i ↦ rw (m.fingerprint, m.own, s, i) refl ]
    ]

-- After that attribute is added, the last rank is its rank.
rank_after : (e : Ended) (algorithm : IntegrityAlgorithm) → MaySign e algorithm → ended_rank (ended_by e (attribute_kind algorithm)) ≡ rank (attribute_kind algorithm)
rank_after e Sha1 m =
    let both = or_false e.sha256 e.sha512 m.stronger in
    rw (m.fingerprint, both.0, both.1) refl
rank_after e Sha256 m = rw (m.fingerprint, m.stronger) refl
rank_after e Sha512 m = rw (m.fingerprint) refl

unmarked_after : (e : Ended) (algorithm : IntegrityAlgorithm) → MaySign e algorithm → (ended_by e (attribute_kind algorithm)).fingerprint ≡ false
unmarked_after e Sha1 m = m.fingerprint
unmarked_after e Sha256 m = m.fingerprint
unmarked_after e Sha512 m = m.fingerprint

no_fingerprint : (algorithm : IntegrityAlgorithm) → eqb (attribute_kind algorithm) fingerprint_kind ≡ false
no_fingerprint Sha1 = refl
no_fingerprint Sha256 = refl
no_fingerprint Sha512 = refl

after_any : (e : Ended) → e.fingerprint ≡ false → may_follow (ended_rank e) 4 ≡ true
after_any e f =
    elim (cases_Bool e.sha512) [
      | inl l ↦ rw (f, l) refl
      | inr l ↦ elim (cases_Bool e.sha256) [
        | inl s ↦ rw (f, l, s) refl
        | inr s ↦ elim (cases_Bool e.integrity) [ inl i ↦ rw (f, l, s, i) refl | inr i ↦ rw (f, l, s, i) refl ]
      ]
    ]

marked_step : (mtype number : ℕ) (before : List Attr) (draft : Draft) → IsSound mtype number before draft → fingerprint_add_refusal draft ≡ None
    → IsSound mtype number (before ++ fingerprint_of draft.bytes ∷ []) (after_call Fingerprint draft)
unfolding fingerprint_of
marked_step mtype number before draft s accepted =
    let a = fingerprint_of draft.bytes in
    let decoded = mark_decoded draft accepted in
    let four = fingerprint_size draft.bytes in
    step mtype number before draft a 8 s (record { kind = omega arith; value = omega (arith, four) }) decoded.1 (ap (λ n. 4 + padded n) (sym four)) (after_any draft.ended decoded.0) refl
    (record { before = before; none = subst (λ (b : Bool). Own mtype number before b) decoded.0 s.own; parts = ap (λ (l : List ℕ). before ++ fingerprint_of l ∷ []) s.text })

ordinary_step : (mtype number : ℕ) (before : List Attr) (draft : Draft) (a : Attr) → IsSound mtype number before draft → IsOrdinary a → add_refusal draft (attr_size a) ≡ None
    → IsSound mtype number (before ++ a ∷ []) (after_call (Ordinary a) draft)
ordinary_step mtype number before draft a s lawful accepted =
    let t = add_decoded draft (attr_size a) accepted in
    let n = none_of a.kind lawful.ordinary in
    let unmarked : (ended_by draft.ended a.kind).fingerprint ≡ false = rw (n.fingerprint) t.fingerprint in
    let own : shows_fingerprint (before ++ a ∷ []) ≡ false = shows_more before a (subst (λ (b : Bool). Own mtype number before b) t.fingerprint s.own) n.fingerprint in
    step mtype number before draft a (attr_size a) s lawful.fits t.room refl (rw (lawful.ordinary, t.fingerprint, t.sha512, t.sha256, t.integrity) refl) (rw (lawful.ordinary, n.integrity, n.sha256, n.sha512, n.fingerprint, t.fingerprint, t.sha512, t.sha256, t.integrity) refl)
    (subst (λ (b : Bool). Own mtype number (before ++ a ∷ []) b) (sym unmarked) own)

-- One more accepted call keeps the invariant.
call_step : (mtype number : ℕ) (before : List Attr) (draft : Draft) (call : Add) → IsSound mtype number before draft → IsLawful call → refusal_of call draft ≡ None
    → IsSound mtype number (before ++ attribute_of call draft.bytes ∷ []) (after_call call draft)
call_step mtype number before draft (Ordinary a) s lawful accepted = ordinary_step mtype number before draft a s lawful accepted
call_step mtype number before draft (Integrity algorithm key) s lawful accepted =
    let m = order_decoded draft.ended algorithm (sign_order draft algorithm accepted) in
    signed_step mtype number before draft algorithm key s accepted (after_weaker draft.ended algorithm m) (rank_after draft.ended algorithm m) (unmarked_after draft.ended algorithm m) m.fingerprint (no_fingerprint algorithm)
call_step mtype number before draft Fingerprint s lawful accepted = marked_step mtype number before draft s accepted

sound_after : (mtype number : ℕ) (calls : List Add) (before : List Attr) (draft : Draft) → IsSound mtype number before draft → AllByRecursion IsLawful calls → AreAccepted calls draft
    → IsSound mtype number (attributes_after mtype number calls before) (after_calls calls draft)
unfolding AreAccepted after_calls attributes_after
sound_after mtype number [] before draft s lawful accepted = s
sound_after mtype number (call ∷ rest) before draft s lawful accepted =
    let one = subst (λ (l : List ℕ). IsSound mtype number (before ++ attribute_of call l ∷ []) (after_call call draft)) s.text (call_step mtype number before draft call s lawful.0 accepted.0) in
    sound_after mtype number rest (before ++ attribute_of call (message_text mtype number before) ∷ []) (after_call call draft) one lawful.1 accepted.1

-- ---- what was written

pub written_text : (mtype number : ℕ) (calls : List Add) (draft : Draft) → IsWritten mtype number calls draft → draft.bytes ≡ message_text mtype number (attributes_of mtype number calls)
written_text mtype number calls draft w = ap (λ (d : Draft). d.bytes) w.is ∙ text_after mtype number calls [] w.header w.started.text

written_sound : (mtype number : ℕ) (calls : List Add) (draft : Draft) → IsWritten mtype number calls draft → AllByRecursion IsLawful calls → IsSound mtype number (attributes_of mtype number calls) draft
unfolding last_rank
written_sound mtype number calls draft w lawful =
    let start : IsSound mtype number [] w.header = record {
      text = w.started.text;
      started = w.started.started;
      fits = tt;
      follows = tt;
      last = sym (ap (λ (e : Ended). ended_rank e) w.started.ended);
      own = subst (λ (e : Ended). Own mtype number [] e.fingerprint) (sym w.started.ended) refl;
    } in
    subst (λ (d : Draft). IsSound mtype number (attributes_of mtype number calls) d) (sym w.is) (sound_after mtype number calls [] w.header start lawful w.accepted)

own_of : (mtype number : ℕ) (all : List Attr) (b : Bool) → Own mtype number all b → HasOwnFingerprint mtype number all
own_of mtype number all true h = inr h
own_of mtype number all false h = inl h

text-length : (mtype number : ℕ) (all : List Attr) → length (message_text mtype number all) ≡ 20 + length (body_text all)
unfolding message_text header_text
text-length mtype number all = omega arith

short_body : (mtype number : ℕ) (all : List Attr) (draft : Draft) → IsSound mtype number all draft → length (body_text all) < 2 ^ 16
short_body mtype number all draft s =
    let size = text-length mtype number all in
    omega (arith, size, ap length s.text, s.started.size)

pub calls_read : (mtype number : ℕ) (calls : List Add) (draft : Draft) → mtype < 2 ^ 14 → number < 2 ^ 96 → AllByRecursion IsLawful calls → IsWritten mtype number calls draft
    → IsReadAs mtype number (attributes_of mtype number calls) draft.bytes
calls_read mtype number calls draft k n lawful w =
    let all = attributes_of mtype number calls in
    let s = written_sound mtype number calls draft w lawful in
    let read = written_read mtype number all k n s.fits (follows_shape (kinds_of all) s.follows) (short_body mtype number all draft s) (own_of mtype number all draft.ended.fingerprint s.own) in
    subst (λ (l : List ℕ). IsReadAs mtype number all l) (sym s.text) read

-- ---- what validates

after_split : (mtype number : ℕ) (xs ys : List Add) (before : List Attr) → attributes_after mtype number (xs ++ ys) before ≡ attributes_after mtype number ys (attributes_after mtype number xs before)
unfolding attributes_after
after_split mtype number [] ys before = refl
after_split mtype number (x ∷ xs) ys before = after_split mtype number xs ys (before ++ attribute_of x (message_text mtype number before) ∷ [])

-- The attributes that the calls add after those in `before`.
unfoldable tail_of : ℕ → ℕ → List Add → List Attr → List Attr
tail_of mtype number [] before = []
tail_of mtype number (call ∷ rest) before =
    let a = attribute_of call (message_text mtype number before) in
    a ∷ tail_of mtype number rest (before ++ a ∷ [])

tail_is : (mtype number : ℕ) (calls : List Add) (before : List Attr) → attributes_after mtype number calls before ≡ before ++ tail_of mtype number calls before
unfolding attributes_after tail_of
tail_is mtype number [] before = sym (append-nil before)
tail_is mtype number (call ∷ rest) before =
    let a = attribute_of call (message_text mtype number before) in
    tail_is mtype number rest (before ++ a ∷ []) ∙ append_assoc before (a ∷ []) (tail_of mtype number rest (before ++ a ∷ []))

is_none : (call : Add) (bytes : List ℕ) → IsLawful call → IsNoIntegrity call → algorithm_of (attribute_of call bytes).kind ≡ None
unfolding fingerprint_of
is_none (Ordinary a) bytes lawful none = let n = none_of a.kind lawful.ordinary in rw (n.integrity, n.sha256, n.sha512) refl
is_none (Integrity algorithm key) bytes lawful none = absurd none
is_none Fingerprint bytes lawful none = refl

tail_none : (mtype number : ℕ) (calls : List Add) (before : List Attr) → AllByRecursion IsLawful calls → AllByRecursion IsNoIntegrity calls → AllByRecursion (λ (a : Attr). algorithm_of a.kind ≡ None) (tail_of mtype number calls before)
unfolding tail_of
tail_none mtype number [] before lawful none = tt
tail_none mtype number (call ∷ rest) before lawful none =
    let text = message_text mtype number before in
    (is_none call text lawful.0 none.0, tail_none mtype number rest (before ++ attribute_of call text ∷ []) lawful.1 none.1)

lawful_back : (xs ys : List Add) → AllByRecursion IsLawful (xs ++ ys) → AllByRecursion IsLawful ys
lawful_back [] ys h = h
lawful_back (x ∷ xs) ys h = lawful_back xs ys h.1

fits_head : (xs ys : List Attr) → AllByRecursion FitsAttribute (xs ++ ys) → AllByRecursion FitsAttribute xs
fits_head [] ys h = tt
fits_head (x ∷ xs) ys h = (h.0, fits_head xs ys h.1)

fits_back : (xs ys : List Attr) → AllByRecursion FitsAttribute (xs ++ ys) → AllByRecursion FitsAttribute ys
fits_back [] ys h = h
fits_back (x ∷ xs) ys h = fits_back xs ys h.1

pub calls_validate : (mtype number : ℕ) (earlier following : List Add) (algorithm : IntegrityAlgorithm) (key : List ℕ) (draft : Draft) → mtype < 2 ^ 14 → number < 2 ^ 96
    → AllByRecursion IsLawful (earlier ++ Integrity algorithm key ∷ following) → IsWritten mtype number (earlier ++ Integrity algorithm key ∷ following) draft → AllByRecursion IsNoIntegrity following
    → Validates draft.bytes key algorithm (text_to_sign algorithm (message_text mtype number (attributes_of mtype number earlier)))
unfolding attributes_after
calls_validate mtype number earlier following algorithm key draft k n lawful w none =
    let calls = earlier ++ Integrity algorithm key ∷ following in
    let all = attributes_of mtype number calls in
    let s = written_sound mtype number calls draft w lawful in
    let adds = attributes_of mtype number earlier in
    let a = signature algorithm key (message_text mtype number adds) in
    let tail = tail_of mtype number following (adds ++ a ∷ []) in
    let is : all ≡ adds ++ a ∷ tail = after_split mtype number earlier (Integrity algorithm key ∷ following) [] ∙ tail_is mtype number following (adds ++ a ∷ []) ∙ append_assoc adds (a ∷ []) tail in
    let fits : AllByRecursion FitsAttribute (adds ++ a ∷ tail) = subst (λ (l : List Attr). AllByRecursion FitsAttribute l) is s.fits in
    let following-lawful = (lawful_back earlier (Integrity algorithm key ∷ following) lawful).1 in
    subst (λ (l : List ℕ). Validates l key algorithm (text_to_sign algorithm (message_text mtype number adds))) (sym s.text)
    (signed_is_valid mtype number adds key algorithm tail all is k n (fits_head adds (a ∷ tail) fits) (fits_back adds (a ∷ tail) fits).1 (follows_shape (kinds_of all) s.follows)
    (short_body mtype number all draft s) (own_of mtype number all draft.ended.fingerprint s.own) (tail_none mtype number following (adds ++ a ∷ []) following-lawful none))

-- ---- ordinary attributes, signed or not

ordinary_after : (mtype number : ℕ) (all before : List Attr) → attributes_after mtype number (map Ordinary all) before ≡ before ++ all
unfolding attributes_after
ordinary_after mtype number [] before = sym (append-nil before)
ordinary_after mtype number (a ∷ all) before = ordinary_after mtype number all (before ++ a ∷ []) ∙ append_assoc before (a ∷ []) all

ordinary_lawful : (all : List Attr) → AllByRecursion IsOrdinary all → AllByRecursion IsLawful (map Ordinary all)
ordinary_lawful [] h = tt
ordinary_lawful (a ∷ all) h = (h.0, ordinary_lawful all h.1)

lawful_both : (xs ys : List Add) → AllByRecursion IsLawful xs → AllByRecursion IsLawful ys → AllByRecursion IsLawful (xs ++ ys)
lawful_both [] ys h k = k
lawful_both (x ∷ xs) ys h k = (h.0, lawful_both xs ys h.1 k)

-- A message written from ordinary attributes is read as these attributes.
pub composed_read : (mtype number : ℕ) (attributes : List Attr) (draft : Draft) → mtype < 2 ^ 14 → number < 2 ^ 96 → AllByRecursion IsOrdinary attributes → IsWritten mtype number (map Ordinary attributes) draft
    → IsReadAs mtype number attributes draft.bytes
composed_read mtype number attributes draft k n lawful w =
    subst (λ (l : List Attr). IsReadAs mtype number l draft.bytes) (ordinary_after mtype number attributes []) (calls_read mtype number (map Ordinary attributes) draft k n (ordinary_lawful attributes lawful) w)

signed_attributes_are : (mtype number : ℕ) (attributes : List Attr) (algorithm : IntegrityAlgorithm) (key : List ℕ)
    → attributes_of mtype number (map Ordinary attributes ++ Integrity algorithm key ∷ []) ≡ attributes ++ signature algorithm key (message_text mtype number attributes) ∷ []
unfolding attributes_after
signed_attributes_are mtype number attributes algorithm key =
    after_split mtype number (map Ordinary attributes) (Integrity algorithm key ∷ []) [] ∙ ap (λ (l : List Attr). l ++ signature algorithm key (message_text mtype number l) ∷ []) (ordinary_after mtype number attributes [])

-- A message written from ordinary attributes and signed is the encoding of these and the signature.
pub signed_text_of : (mtype number : ℕ) (attributes : List Attr) (algorithm : IntegrityAlgorithm) (key : List ℕ) (draft : Draft) → IsWritten mtype number (map Ordinary attributes ++ Integrity algorithm key ∷ []) draft
    → draft.bytes ≡ message_text mtype number (attributes ++ signature algorithm key (message_text mtype number attributes) ∷ [])
signed_text_of mtype number attributes algorithm key draft w = written_text mtype number (map Ordinary attributes ++ Integrity algorithm key ∷ []) draft w ∙ ap (λ (l : List Attr). message_text mtype number l) (signed_attributes_are mtype number attributes algorithm key)

pub signed_read : (mtype number : ℕ) (attributes : List Attr) (algorithm : IntegrityAlgorithm) (key : List ℕ) (draft : Draft) → mtype < 2 ^ 14 → number < 2 ^ 96 → AllByRecursion IsOrdinary attributes
    → IsWritten mtype number (map Ordinary attributes ++ Integrity algorithm key ∷ []) draft → IsReadAs mtype number (attributes ++ signature algorithm key (message_text mtype number attributes) ∷ []) draft.bytes
signed_read mtype number attributes algorithm key draft k n lawful w =
    let calls = map Ordinary attributes ++ Integrity algorithm key ∷ [] in
    let all-lawful = lawful_both (map Ordinary attributes) (Integrity algorithm key ∷ []) (ordinary_lawful attributes lawful) (tt, tt) in
    subst (λ (l : List Attr). IsReadAs mtype number l draft.bytes) (signed_attributes_are mtype number attributes algorithm key) (calls_read mtype number calls draft k n all-lawful w)
