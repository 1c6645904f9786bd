-- The grant is of what was requested, granted and brought by the reply.
use Rattle.std.proofs.Common.{◌≡◌, ℕ, List, refl, ◌⊎◌, inl, inr, Some, sym, ◌∙◌, subst}
use Rattle.turn_runs.specs.Members.{IsIn}
use Rattle.turn_runs.specs.Messages.{Message, Allocation, Permission, Channel, Connection, Gain, Holds, Knows, HasIp, Asks, Brings, IsResponse, Grant, IsGrantFor, GrantIs}
use Rattle.turn_runs.specs.Names.{SocketAddr, IpAddr, MessageClass, Request, Indication, Success, Error}

same_ip : (ip : IpAddr) (one other : List SocketAddr) → other ≡ one → HasIp ip one → HasIp ip other
same_ip ip one other e h = subst (λ (l : List SocketAddr). HasIp ip l) (sym e) h

pub granted_is : (q r : Message) (g : Grant) (gain : Gain) → IsGrantFor q r g → Asks q gain → Brings r gain → GrantIs g gain
granted_is q r g (Holds (Allocation transport address)) for asks brings =
    let e = for.allocates asks.0 in
    (for.method_is ∙ asks.0, e.0 ∙ asks.1, subst (λ (l : List SocketAddr). IsIn address l) e.1 brings.1)
granted_is q r g (Holds (Permission transport ip)) for asks brings = elim asks [
  | inl e ↦ (inl (for.method_is ∙ e.0), same_ip ip q.peers g.peers (for.permits e.0) e.1)
  | inr e ↦ (inr (for.method_is ∙ e.0), record { peer = e.1.0; listed = subst (λ (l : List SocketAddr). IsIn e.1.0 l) (sym ((for.binds e.0).1 e.1.0 e.1.1)) (inl refl); ip_is = e.1.2 })
]
granted_is q r g (Holds (Channel number peer)) for asks brings =
    let e = for.binds asks.0 in
    (for.method_is ∙ asks.0, e.0 ∙ asks.1, e.1 peer asks.2)
granted_is q r g (Holds (Connection local peer number)) for asks brings =
    (for.method_is ∙ asks.0, for.attaches asks.0 ∙ asks.1)
granted_is q r g (Knows number peer) for asks brings =
    let e = for.connects asks.0 in
    (for.method_is ∙ asks.0, e.0 peer asks.1, sym e.1 ∙ brings.1)

-- A message that brings something is a success response, or an error response with a CONNECTION-ID.
pub brings_by : (m : Message) (gain : Gain) → Brings m gain → (m.class ≡ Success) ⊎ ((m.class ≡ Error) × ((n : ℕ) × (m.connection ≡ Some n)))
brings_by m (Holds (Allocation transport address)) h = inl h.0
brings_by m (Holds (Permission transport ip)) h = inl h
brings_by m (Holds (Channel number peer)) h = inl h
brings_by m (Holds (Connection local peer number)) h = inl h
brings_by m (Knows number peer) h = elim h.0 [ inl e ↦ inl e | inr e ↦ inr (e, (number, h.1)) ]

pub brings_response : (m : Message) (gain : Gain) → Brings m gain → IsResponse m.class
brings_response m gain h = elim (brings_by m gain h) [ inl e ↦ inl e | inr e ↦ inr e.0 ]

-- A response is neither a request nor an indication.
pub response_no_request : (k : MessageClass) → IsResponse k → k ≡ Request → ⊥
response_no_request k h e = elim h [
  | inl s ↦ (let no : Request ≡ Success = sym e ∙ s in let never : ⊥ = cc in never)
  | inr f ↦ (let no : Request ≡ Error = sym e ∙ f in let never : ⊥ = cc in never)
]

pub response_no_indication : (k : MessageClass) → IsResponse k → k ≡ Indication → ⊥
response_no_indication k h e = elim h [
  | inl s ↦ (let no : Indication ≡ Success = sym e ∙ s in let never : ⊥ = cc in never)
  | inr f ↦ (let no : Indication ≡ Error = sym e ∙ f in let never : ⊥ = cc in never)
]

pub request_no_indication : (k : MessageClass) → k ≡ Request → k ≡ Indication → ⊥
request_no_indication k h e = let no : Indication ≡ Request = sym e ∙ h in let never : ⊥ = cc in never
