use Rattle.std.proofs.Common.{◌≡◌, fold, length, Some}
use Rattle.std.specs.List.{list_any}
use Rattle.std.specs.Option.{option_map}
use Rattle.stun_types_wire.specs.Grammar.{number_at}
use Rattle.turn_types_attributes.specs.TurnRegistry.{data_kind, icmp_kind, xor_peer_address_kind}
use Rattle.turn_types_peer.specs.TurnShows.{address_in}
use Rattle.turn_client_proto_core.specs.TurnRuns.Indications.{is_unexpected, peer_reported, last_listed, report_in, report_decoded, shows_unexpected}
use Rattle.turn_client_proto_payload.proofs.Last.{later_reported}
use Rattle.turn_client_proto_payload.proofs.indication.reported_in.Given as goal

-- The attributes that are left lead to the result of all of them.
abbrev pub invariant-loop-offset : goal.invariant-loop-offset
invariant-loop-offset l = record {
  can_next : (goal.iterator-loop-offset).can_next l.offset-iterator;
  is_finite : (goal.iterator-loop-offset).is_finite l.offset-iterator;
  peer : fold (later_reported xor_peer_address_kind (λ e. address_in (number_at l.message) e.1)) l.peer l.offset-iterator ≡ peer_reported l.fn.message;
  value : fold (later_reported data_kind (λ e. Some (e.0, length e.1.value))) l.value l.offset-iterator ≡ option_map (λ e. (e.0, length e.1.value)) (last_listed data_kind l.fn.message);
  report : fold (later_reported icmp_kind (λ e. report_in e.1)) l.report l.offset-iterator ≡ report_decoded l.fn.message;
  unexpected : list_any (λ e. is_unexpected e.1.kind) l.offset-iterator ≡ shows_unexpected l.fn.message;
}
