use Rattle.std.proofs.Common.{◌≡◌, ◌∙◌, true, false, refl, subst, sym}
use Rattle.std.specs.Bool.{MatchBool}
use Rattle.turn_types_frame.specs.StreamAnswers.{IsNone, after_look, looked}
use Rattle.turn_client_proto_recv.specs.Notes.{Start}
use Rattle.turn_client_proto_recv.specs.SocketChunks.{IsFrameProcessed, IsNextTaken}
use Rattle.turn_client_proto_recv.proofs.Noting.{once, same_then}
use Rattle.turn_client_proto_recv.proofs.sockets.take_next.Goals.{in-Some+in_ok-take_frame-in-Some, in-None}
use Rattle.turn_client_proto_recv.proofs.sockets.take_next.Goals as goal

pub returns-then-not-is_joining-clause-noted : goal.returns-then-not-is_joining-clause-noted
returns-then-not-is_joining-clause-noted c =
    Start

pub returns-in_err-take_frame-in-Some-clause-noted : goal.returns-in_err-take_frame-in-Some-clause-noted
returns-in_err-take_frame-in-Some-clause-noted c =
    once c.args.now c.args.protocol.now c.args.notes.now _ c.take_frame.new.protocol c.take_frame.new.notes c.take_frame.ensures.noted

pub returns-clause-ok : goal.returns-clause-ok
returns-clause-ok c =
    elim c.match-head.branch [
      | in-Some+in_ok-take_frame-in-Some w ↦
          subst (λ b. IsNextTaken c.args.here c.args.now c.args.stream.now c.args.protocol.now b c.drop_head.new.self c.match-head.protocol) (sym w.is_whole-is)
          (subst (λ p. IsNextTaken c.args.here c.args.now c.args.stream.now c.args.protocol.now true c.drop_head.new.self p) (sym w.protocol-is) (
            sym c.is_joining.ensures ∙ c.if-not-is_joining.false,
            w.in-Some.ensures.0,
            subst (λ f. IsFrameProcessed c.args.here c.args.now c.args.protocol.now f w.take_frame.new.protocol) w.in-Some.ensures.1 w.in_ok-take_frame-in-Some.ensures.ok,
            c.drop_head.ensures,
          ))
      | in-None w ↦
          subst (λ b. IsNextTaken c.args.here c.args.now c.args.stream.now c.args.protocol.now b c.drop_head.new.self c.match-head.protocol) (sym w.is_whole-is)
          (subst (λ b. MatchBool b (IsNone (looked c.args.stream.now) × (c.drop_head.new.self ≡ after_look c.args.stream.now) × (c.match-head.protocol ≡ c.args.protocol.now)) ((c.drop_head.new.self ≡ c.args.stream.now) × (c.match-head.protocol ≡ c.args.protocol.now))) (sym (sym c.is_joining.ensures ∙ c.if-not-is_joining.false))
          (w.in-None.ensures, c.drop_head.ensures, w.protocol-is))
    ]

pub returns-clause-noted : goal.returns-clause-noted
returns-clause-noted c =
    elim c.match-head.branch [
      | in-Some+in_ok-take_frame-in-Some w ↦ same_then c.args.now c.args.protocol.now c.args.notes.now w.take_frame.new.protocol w.take_frame.new.notes (once c.args.now c.args.protocol.now c.args.notes.now _ w.take_frame.new.protocol w.take_frame.new.notes w.take_frame.ensures.noted) c.match-head.protocol c.match-head.notes w.protocol-is w.notes-is
      | in-None w ↦ same_then c.args.now c.args.protocol.now c.args.notes.now c.args.protocol.now c.args.notes.now Start c.match-head.protocol c.match-head.notes w.protocol-is w.notes-is
    ]
