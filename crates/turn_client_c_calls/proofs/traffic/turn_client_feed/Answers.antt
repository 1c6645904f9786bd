use Rattle.std.proofs.Common.{rules, ℕ, ℤ, sym, ◌∙◌, subst}
use Rattle.turn_client_c_calls.specs.Traffic.{IsFed}
use Rattle.turn_client_c_calls.proofs.Calling.{named, on_client, unless}
use Rattle.turn_client_c_calls.proofs.traffic.turn_client_feed.Goals as goal

pub returns : goal.returns
returns c =
    named _ c.in-Some.sender _ _ _ _ _ (sym c.to_socket.ensures ∙ c.in-Some.is)
    (named _ c.in-Some-to_socket.here _ _ _ _ _ (sym c.to_socket-2.ensures ∙ c.in-Some-to_socket.is)
    (unless _ _ _ _ _ _ (search rules)
    (on_client (λ (s : ℤ). IsFed c.args.bytes c.in-Some.sender c.in-Some-to_socket.here c.args.now s c.args.payload.now c.feed-status.new.payload) _ _ _ c.feed-status.result c.in-Some-take.whole.value c.deref_mut.result.now c.feed-status.new.whole
    (search rules) c.in-Some-take.ensures.client c.deref_mut.ensures.value c.put.ensures
    (subst (λ (n : ℕ). IsFed c.args.bytes c.in-Some.sender c.in-Some-to_socket.here n c.feed-status.result c.args.payload.now c.feed-status.new.payload c.deref_mut.result.now c.feed-status.new.whole) c.from_nanos-time.ensures c.feed-status.ensures))))
