-- The setup lines of a trace.
use Rattle.std.specs.Prelude.{ℕ, ◌≡◌, ◌≤◌, ◌*◌, ◌==◌, ◌⊎◌, Bool, true, false, List, [], ◌∷◌, length, codes, Option, Some, None}
use Rattle.std.specs.Duration.{as_nanos}
use Rattle.std.specs.List.{slice_split}
use Rattle.std.specs.Option.{option_map}
use Rattle.std.specs.Net.Grammar.{IsSocketText}
use Rattle.std.specs.declared.time.Duration.{Duration}
use Rattle.stun_proto_auth.specs.declared.feature.Feature.{Feature}
use Rattle.stun_proto_auth.specs.declared.feature.Feature.TheVariants.{Auto, Required, Disabled}
use Rattle.stun_types_base.specs.declared.family.AddressFamily.{AddressFamily}
use Rattle.stun_types_base.specs.declared.family.AddressFamily.TheVariants.{IPV4, IPV6}
use Rattle.stun_types_base.specs.declared.transport.TransportType.{TransportType}
use Rattle.stun_types_base.specs.declared.transport.TransportType.TheVariants.{Udp, Tcp}
use Rattle.turn_desk_event.specs.Printed.{transport_word}
use Rattle.turn_desk_trace.specs.Algorithms.{AreAlgorithms}
use Rattle.turn_desk_trace.specs.Decision.{IsU32}
use Rattle.turn_desk_trace.specs.TraceNumbers.{number, seed_of}
use Rattle.turn_desk_trace.specs.declared.setup.Client.{Client as ClientSetup}
use Rattle.turn_desk_trace.specs.declared.setup.Families.{Families}
use Rattle.turn_desk_trace.specs.declared.setup.Families.TheVariants.{V4, V6, V4AndV6, V6AndV4}
use Rattle.turn_desk_trace.specs.declared.setup.Setup.{Setup}
use Rattle.turn_desk_trace.specs.declared.setup.Setup.TheVariants.{Desk, User, Rto, Client}
use Rattle.turn_desk_trace.specs.declared.setup.TheConstants.{MAX_REALM, MAX_USERNAME}

-- The word for the address families.
abbrev pub families_word : Families → List ℕ
families_word V4 = codes "4"
families_word V6 = codes "6"
families_word V4AndV6 = codes "4,6"
families_word V6AndV4 = codes "6,4"

-- The list of the address families, in the order in which the word names them.
abbrev pub families_in_order : Families → List AddressFamily
families_in_order V4 = IPV4 ∷ []
families_in_order V6 = IPV6 ∷ []
families_in_order V4AndV6 = IPV4 ∷ IPV6 ∷ []
families_in_order V6AndV4 = IPV6 ∷ IPV4 ∷ []

-- The word for the anonymity setting.
abbrev pub anonymity_word : Feature → List ℕ
anonymity_word Auto = codes "auto"
anonymity_word Required = codes "required"
anonymity_word Disabled = codes "disabled"

-- A millisecond, in nanoseconds.
abbrev pub millisecond : ℕ
millisecond = 1_000_000

-- The word spells the duration in milliseconds.
abbrev pub IsMillis : List ℕ → Duration → Type 0
IsMillis word duration = option_map (λ millis. millis * millisecond) (number word) ≡ Some (as_nanos duration)

-- The word spells a limit on addresses, which is at least 1.
abbrev pub IsAddressLimit : List ℕ → Option ℕ → Type 0
IsAddressLimit word None = ⊥
IsAddressLimit word (Some limit) = IsU32 word limit × (1 ≤ limit)

-- The words after the anonymity setting: `clients` and the limit on addresses, or none.
abbrev pub AreDeskOptions : List (List ℕ) → (clients : Option ℕ) → Type 0
AreDeskOptions [] clients = clients ≡ None
AreDeskOptions (word ∷ limit ∷ []) clients = (word ≡ codes "clients") × IsAddressLimit limit clients
AreDeskOptions words clients = ⊥

-- The words after `desk` spell a server core with that realm and those settings.
abbrev pub IsDesk : List (List ℕ) → Setup → Type 0
IsDesk (realm ∷ algorithms ∷ anonymity ∷ more) (Desk r a b clients) =
    (r.now ≡ realm) × (length realm ≤ MAX_REALM) × AreAlgorithms (slice_split (λ b. b == 44) algorithms) a
    × (anonymity ≡ anonymity_word b) × AreDeskOptions more clients
IsDesk words setup = ⊥

-- The words after `user` spell a user with that name and password.
abbrev pub IsUser : List (List ℕ) → Setup → Type 0
IsUser (name ∷ password ∷ []) (User n p) = (n.now ≡ name) × (length name ≤ MAX_USERNAME) × (p.now ≡ password)
IsUser words setup = ⊥

-- The words spell the retransmission timeouts of requests: the first one, the maximum, the number of
-- transmissions, and the last one.
abbrev pub IsRtoOf : List ℕ → List ℕ → List ℕ → List ℕ → Setup → Type 0
IsRtoOf initial most count last (Desk r a b c) = ⊥
IsRtoOf initial most count last (User n p) = ⊥
IsRtoOf initial most count last (Rto i m n l) = IsMillis initial i × IsMillis most m × IsU32 count n × IsMillis last l
IsRtoOf initial most count last (Client by over settings) = ⊥

-- The first two timeouts and the words after them spell the retransmission timeouts of requests.
abbrev pub IsRtoWith : List ℕ → List ℕ → List (List ℕ) → Setup → Type 0
IsRtoWith initial most (count ∷ last ∷ []) setup = IsRtoOf initial most count last setup
IsRtoWith initial most words setup = ⊥

-- The words after `rto` spell the retransmission timeouts of requests.
abbrev pub IsRto : List (List ℕ) → Setup → Type 0
IsRto (initial ∷ most ∷ rest) setup = IsRtoWith initial most rest setup
IsRto words setup = ⊥

-- The word spells the limit on connections of peers.
abbrev pub IsLimit : List ℕ → Option ℕ → Type 0
IsLimit word None = ⊥
IsLimit word (Some limit) = IsU32 word limit

-- The only word spells the limit on connections of peers.
abbrev pub IsAlone : List (List ℕ) → (attempts : Option ℕ) → Type 0
IsAlone (limit ∷ []) attempts = IsLimit limit attempts
IsAlone words attempts = ⊥

-- The words after `short`: `attempts` and the limit on connections of peers, or none.
abbrev pub AreAfterShort : List (List ℕ) → (attempts : Option ℕ) → Type 0
AreAfterShort [] attempts = attempts ≡ None
AreAfterShort (word ∷ rest) attempts = (word ≡ codes "attempts") × IsAlone rest attempts

-- The words after `hardened`: `short` or not, and after it the limit or not.
abbrev pub AreAfterHardened : List (List ℕ) → (short : Bool) → (attempts : Option ℕ) → Type 0
AreAfterHardened [] short attempts = (short ≡ false) × (attempts ≡ None)
AreAfterHardened (word ∷ rest) short attempts =
    ((word ≡ codes "short") × (short ≡ true) × AreAfterShort rest attempts)
    ⊎ ((word ≡ codes "attempts") × (short ≡ false) × IsAlone rest attempts)

-- The words after `indications`: `hardened` or not, after it `short` or not, and after that `attempts` and the
-- limit on connections of peers, or not.
abbrev pub AreOptions : List (List ℕ) → (hardened short : Bool) → (attempts : Option ℕ) → Type 0
AreOptions [] hardened short attempts = (hardened ≡ false) × AreAfterHardened [] short attempts
AreOptions (word ∷ rest) hardened short attempts =
    ((word ≡ codes "hardened") × (hardened ≡ true) × AreAfterHardened rest short attempts)
    ⊎ ((hardened ≡ false) × AreAfterHardened (word ∷ rest) short attempts)

-- The words after the seed: `indications` or not, and after it the others.
abbrev pub AreAllOptions : List (List ℕ) → (indications hardened short : Bool) → (attempts : Option ℕ) → Type 0
AreAllOptions [] indications hardened short attempts = (indications ≡ false) × AreOptions [] hardened short attempts
AreAllOptions (word ∷ rest) indications hardened short attempts =
    ((word ≡ codes "indications") × (indications ≡ true) × AreOptions rest hardened short attempts)
    ⊎ ((indications ≡ false) × AreOptions (word ∷ rest) hardened short attempts)

-- The words spell the settings of a client with those addresses.
pub record IsClientOf (local remote families algorithms anonymity name password seed : List ℕ)
    (more : List (List ℕ)) (client : ClientSetup) : Type 0 where
  pub here : IsSocketText local client.local
  pub server : IsSocketText remote client.remote
  pub requested : families ≡ families_word client.families
  pub supported : AreAlgorithms (slice_split (λ b. b == 44) algorithms) client.algorithms
  pub hidden : anonymity ≡ anonymity_word client.anonymity
  pub user : client.name.now ≡ name
  pub bound : length name ≤ MAX_USERNAME
  pub secret : client.password.now ≡ password
  pub transmitted : seed_of seed ≡ Some client.seed
  pub options : AreAllOptions more client.indications client.hardened client.short_lifetimes client.attempts

-- The first five words and the words after them spell the settings of a client.
abbrev pub IsClientWith : List ℕ → List ℕ → List ℕ → List ℕ → List ℕ → List (List ℕ) → ClientSetup → Type 0
IsClientWith local remote families algorithms anonymity (name ∷ password ∷ seed ∷ more) client =
    IsClientOf local remote families algorithms anonymity name password seed more client
IsClientWith local remote families algorithms anonymity words client = ⊥

-- The two addresses and the words after the transport of the allocation spell the settings of a client.
abbrev pub IsClientAt : List ℕ → List ℕ → List (List ℕ) → ClientSetup → Type 0
IsClientAt local remote (families ∷ algorithms ∷ anonymity ∷ words) client =
    IsClientWith local remote families algorithms anonymity words client
IsClientAt local remote words client = ⊥

-- A client over UDP can't request an allocation over TCP (RFC 6062, section 4.1).
abbrev pub CanAsk : (by over : TransportType) → Type 0
CanAsk Udp Tcp = ⊥
CanAsk Udp Udp = Unit {0}
CanAsk Tcp over = Unit {0}

-- The two words name the transport between client and server, and the one between server and peers.
abbrev pub AreTransports : List ℕ → List ℕ → TransportType → TransportType → Type 0
AreTransports first second by over = (first ≡ transport_word by) × (second ≡ transport_word over) × CanAsk by over

-- The words after `client` spell the client.
abbrev pub IsClientBy : List ℕ → List ℕ → List ℕ → List ℕ → List (List ℕ) → Setup → Type 0
IsClientBy by local remote over words (Desk r a b c) = ⊥
IsClientBy by local remote over words (User n p) = ⊥
IsClientBy by local remote over words (Rto i m n l) = ⊥
IsClientBy by local remote over words (Client b o settings) = AreTransports by over b o × IsClientAt local remote words settings

abbrev pub IsClient : List (List ℕ) → Setup → Type 0
IsClient (by ∷ local ∷ remote ∷ over ∷ words) setup = IsClientBy by local remote over words setup
IsClient words setup = ⊥

-- The name and the words after it spell the setup line.
abbrev pub IsSetupOf : List ℕ → List (List ℕ) → Setup → Type 0
IsSetupOf name rest (Desk r a b c) = (name ≡ codes "desk") × IsDesk rest (Desk r a b c)
IsSetupOf name rest (User n p) = (name ≡ codes "user") × IsUser rest (User n p)
IsSetupOf name rest (Rto i m n l) = (name ≡ codes "rto") × IsRto rest (Rto i m n l)
IsSetupOf name rest (Client by over settings) = (name ≡ codes "client") × IsClient rest (Client by over settings)

-- The words spell the setup line.
abbrev pub IsSetup : List (List ℕ) → Setup → Type 0
IsSetup [] setup = ⊥
IsSetup (name ∷ rest) setup = IsSetupOf name rest setup
