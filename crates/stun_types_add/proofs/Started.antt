-- How writing a header changes a draft.
use Rattle.std.proofs.Common.{◌≡◌, ℕ, ◌<◌, ◌^◌, List, [], ◌++◌, drop, length, refl, ap, ◌∙◌, arith}
use Rattle.stun_types_integrity.specs.Wire.Text.{body_text, header_text, message_text}
use Rattle.stun_types_add.proofs.Adds.{text_started}
use Rattle.stun_types_integrity.specs.Write.Drafts.{Draft, pushed}
use Rattle.stun_types_integrity.specs.Write.Outcomes.{CanBegin, IsStartedAs}

text_size : (mtype number : ℕ) → length (message_text mtype number []) ≡ 20
unfolding message_text body_text header_text
text_size mtype number = refl

header_alone : (mtype number : ℕ) → header_text mtype 0 number ≡ message_text mtype number []
unfolding message_text body_text header_text
header_alone mtype number = refl

-- Pushing a header into an empty draft starts a message.
pub started : (mtype number kind m : ℕ) (old new : Draft) (header : List ℕ) → CanBegin old → kind ≡ mtype → m ≡ number → kind < 2 ^ 14 → header ≡ header_text kind 0 m → new ≡ pushed header old → IsStartedAs mtype number old new
started mtype number kind m old new header can same own lawful is push =
    let whole : header ≡ message_text mtype number [] = is ∙ header_alone kind m ∙ ap (λ (k : ℕ). message_text k m []) same ∙ ap (λ (i : ℕ). message_text mtype i []) own in
    let text : new.bytes ≡ message_text mtype number [] = ap (λ (d : Draft). d.bytes) push ∙ ap (λ (l : List ℕ). l ++ header) can.empty ∙ whole in
    let size : length header ≡ 20 = ap length whole ∙ text_size mtype number in
    record {
      text = text;
      size = ap length text ∙ text_size mtype number;
      following = ap (λ (d : Draft). d.following) push ∙ ap (λ (n : ℕ). drop n old.following) size;
      ended = ap (λ (d : Draft). d.ended) push ∙ can.ended;
      limit = ap (λ (d : Draft). d.limit) push;
      started = rw text (text_started mtype number (omega (arith, same, lawful)));
    }
