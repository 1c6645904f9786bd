-- What the first word of a line says: whether it is a setup line, whether it is a look, and whether its event is
-- for the client.
use Rattle.std.proofs.Common.{ℕ, ◌≡◌, Bool, true, false, not, List, [], ◌∷◌, inl, inr, refl, sym, ap, subst, ◌∙◌}
use Rattle.std.specs.Prelude.{◌==◌, ◌||◌, ◌&&◌, Option, Some, None, is_some}
use Rattle.line_io.proofs.WordLemmas.{same_words}
use Rattle.line_io.specs.Cut.{says_nothing}
use Rattle.turn_desk_trace.specs.Event.{IsCall, IsEvent, IsEventOf}
use Rattle.turn_desk_trace.specs.Look.{IsLook}
use Rattle.turn_desk_trace.specs.Setup.{IsSetupOf}
use Rattle.turn_desk_trace.specs.TraceLines.{IsLine, IsLineOf}
use Rattle.turn_desk_trace.specs.declared.line.Line.{Line}
use Rattle.turn_desk_trace.specs.declared.line.Line.TheVariants.{Setup, Look, Event}
use Rattle.turn_desk_trace.specs.declared.look.Look.{Look as Looking}
use Rattle.turn_desk_trace.specs.declared.look.Look.TheVariants.{Cause, Mapped, Alternate}
use Rattle.turn_desk_trace.specs.declared.setup.Setup.{Setup as SettingUp}
use Rattle.turn_desk_trace.specs.declared.setup.Setup.TheVariants.{Desk, User, Rto, Client}
use Rattle.turn_desk_event.specs.declared.event.ClientCall.{ClientCall}
use Rattle.turn_desk_event.specs.declared.event.ClientCall.TheVariants.{Poll, PollEvent, Delete, CreatePermission, CreatePermissions, HavePermission, Permissions, BindChannel, Channels, SendTo, PollRecv, ProtocolError, RelayedAddresses, TcpConnect, AllocatedTcpSocket, TcpClosed, Connections}
use Rattle.turn_desk_event.specs.declared.event.Event.{Event as Happening}
use Rattle.turn_desk_event.specs.declared.event.Event.TheVariants.{Call, Draw, ToClient, ToDesk}
use Rattle.turn_desk_world.specs.Model.{World}
use Rattle.turn_desk_world.specs.Progress.{Progress, can_happen, can_happen_now, can_look, is_of_client, world_of}
use Rattle.turn_desk_world.specs.Replay.{IsBadLine, can_stand}

-- The first and the third letter of a word.
abbrev first : List ℕ → ℕ
first [] = 0
first (a ∷ rest) = a

abbrev third : List ℕ → ℕ
third [] = 0
third (a ∷ []) = 0
third (a ∷ b ∷ []) = 0
third (a ∷ b ∷ c ∷ rest) = c

-- Whether a word that begins a line is `desk`, `rto`, `client` or `user`, and whether it is not `todesk`.
abbrev sets_up : List ℕ → Bool
sets_up name = (third name == 115) || ((third name == 111) && (first name == 114)) || (third name == 105) || ((third name == 101) && (first name == 117))

-- Whether it is the word of a look, and whether it begins no event.
abbrev looks : List ℕ → Bool
looks name = (third name == 117) || (third name == 112) || (third name == 116)

abbrev begins_no_event : List ℕ → Bool
begins_no_event name = sets_up name || looks name

abbrev is_client : List ℕ → Bool
is_client name = not (third name == 100)

setup_name : (name : List ℕ) (rest : List (List ℕ)) (setup : SettingUp) → IsSetupOf name rest setup
    → (begins_no_event name ≡ true) × (looks name ≡ false)
setup_name name rest (Desk r a b c) is = (ap begins_no_event is.0, ap looks is.0)
setup_name name rest (User n p) is = (ap begins_no_event is.0, ap looks is.0)
setup_name name rest (Rto i m n l) is = (ap begins_no_event is.0, ap looks is.0)
setup_name name rest (Client by over settings) is = (ap begins_no_event is.0, ap looks is.0)

look_name : (name : List ℕ) (rest : List (List ℕ)) (look : Looking) → IsLook (name ∷ rest) look
    → (begins_no_event name ≡ true) × (looks name ≡ true)
look_name name [] Cause is = (ap begins_no_event is, ap looks is)
look_name name [] Mapped is = (ap begins_no_event is, ap looks is)
look_name name [] Alternate is = (ap begins_no_event is, ap looks is)
look_name name (more ∷ rest) look is = absurd is

call_name : (name : List ℕ) (rest : List (List ℕ)) (call : ClientCall) (time : ℕ) → IsCall name rest call time
    → (begins_no_event name ≡ false) × (is_client name ≡ true)
call_name name rest Poll time is = (ap begins_no_event is.0, ap is_client is.0)
call_name name rest PollEvent time is = (ap begins_no_event is.0, ap is_client is.0)
call_name name rest Delete time is = (ap begins_no_event is.0, ap is_client is.0)
call_name name rest (CreatePermission transport ip) time is = (ap begins_no_event is.0, ap is_client is.0)
call_name name rest (CreatePermissions transport ips) time is = absurd is
call_name name rest (HavePermission transport ip) time is = (ap begins_no_event is.0, ap is_client is.0)
call_name name rest (Permissions transport socket) time is = (ap begins_no_event is.0, ap is_client is.0)
call_name name rest (BindChannel transport peer) time is = (ap begins_no_event is.0, ap is_client is.0)
call_name name rest (TcpConnect peer) time is = (ap begins_no_event is.0, ap is_client is.0)
call_name name rest (AllocatedTcpSocket connection peer here) time is = (ap begins_no_event is.0, ap is_client is.0)
call_name name rest (TcpClosed here there) time is = (ap begins_no_event is.0, ap is_client is.0)
call_name name rest Connections time is = (ap begins_no_event is.0, ap is_client is.0)
call_name name rest Channels time is = (ap begins_no_event is.0, ap is_client is.0)
call_name name rest (SendTo transport to bytes) time is = absurd is
call_name name rest PollRecv time is = (ap begins_no_event is.0, ap is_client is.0)
call_name name rest ProtocolError time is = (ap begins_no_event is.0, ap is_client is.0)
call_name name rest RelayedAddresses time is = (ap begins_no_event is.0, ap is_client is.0)

event_name : (answers : List (List ℕ)) (name : List ℕ) (rest : List (List ℕ)) (event : Happening)
    → IsEventOf answers name rest event → (begins_no_event name ≡ false) × (is_client name ≡ is_of_client event)
event_name answers name rest (Call call time) is = elim is [
  | inl plain ↦ call_name name rest call time plain
  | inr named ↦ elim named [
    | inl send ↦ (ap begins_no_event send.0, ap is_client send.0)
    | inr permit ↦ (ap begins_no_event permit.0, ap is_client permit.0)
  ]
]
event_name answers name rest (Draw time) is = (ap begins_no_event is.0, ap is_client is.0)
event_name answers name rest (ToClient b f t n) is = (ap begins_no_event is.0, ap is_client is.0)
event_name answers name rest (ToDesk b f n d s) is = (ap begins_no_event is.0, ap is_client is.0)

-- Of two events for the same side, both can happen in a simulation or neither can.
alike : (world : Option World) (one other : Happening) → is_of_client one ≡ is_of_client other
    → can_happen_now world one ≡ can_happen_now world other
alike None one other same = refl
alike (Some world) one other same = ap (λ b. not b || is_some world.client) same

none_is_active : (p : Progress) (event : Happening) (line : Line) (words : List (List ℕ)) → IsEvent p.named words event
    → IsLineOf p.named words line → can_happen p event ≡ false → can_stand p line ≡ false
none_is_active p event line [] is other never = absurd is
none_is_active p event (Setup setup) (name ∷ rest) is other never =
    absurd (let both : true ≡ false = sym (setup_name name rest setup other).0 ∙ (event_name p.named name rest event is).0 in cc)
none_is_active p event (Look look) (name ∷ rest) is other never =
    absurd (let both : true ≡ false = sym (look_name name rest look other).0 ∙ (event_name p.named name rest event is).0 in cc)
none_is_active p event (Event read) (name ∷ rest) is other never =
    alike (world_of p) read event
    (sym (event_name p.named name rest read other).1 ∙ (event_name p.named name rest event is).1) ∙ never

-- A line that is not skipped and spells an event that can't happen is bad.
pub spelled_in_vain : (p : Progress) (text : List ℕ) (event : Happening) → says_nothing text ≡ false
    → IsLine p.named text (Event event) → can_happen p event ≡ false → IsBadLine p text
spelled_in_vain p text event says is never = record {
  says = says;
  none = λ line spelled. none_is_active p event line is.words is.spelled
      (subst (λ words. IsLineOf p.named words line) (same_words text spelled.words is.words spelled.parted is.parted) spelled.spelled) never;
}

none_is_visible : (p : Progress) (look : Looking) (line : Line) (words : List (List ℕ)) → IsLook words look
    → IsLineOf p.named words line → can_look p ≡ false → can_stand p line ≡ false
none_is_visible p look line [] is other never = absurd is
none_is_visible p look (Setup setup) (name ∷ rest) is other never =
    absurd (let both : true ≡ false = sym (look_name name rest look is).1 ∙ (setup_name name rest setup other).1 in cc)
none_is_visible p look (Look read) (name ∷ rest) is other never = never
none_is_visible p look (Event event) (name ∷ rest) is other never =
    absurd (let both : true ≡ false = sym (look_name name rest look is).0 ∙ (event_name p.named name rest event other).0 in cc)

-- A line that is not skipped and spells a look is bad if there is no client.
pub looked_in_vain : (p : Progress) (text : List ℕ) (look : Looking) → says_nothing text ≡ false
    → IsLine p.named text (Look look) → can_look p ≡ false → IsBadLine p text
looked_in_vain p text look says is never = record {
  says = says;
  none = λ line spelled. none_is_visible p look line is.words is.spelled
      (subst (λ words. IsLineOf p.named words line) (same_words text spelled.words is.words spelled.parted is.parted) spelled.spelled) never;
}
