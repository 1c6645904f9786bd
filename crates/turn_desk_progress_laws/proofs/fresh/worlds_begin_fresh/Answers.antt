use Rattle.std.proofs.Common.{List, subst}
use Rattle.turn_desk_core.specs.StunTypesBase.declared.family.AddressFamily.{AddressFamily}
use Rattle.turn_client_proto_api.specs.declared.options.AllocateOptions.{AllocateOptions}
use Rattle.turn_client_proto_messages.specs.ReportedRequests.{IsLawfulAllocate}
use Rattle.turn_desk_progress_laws.proofs.fresh.worlds_begin_fresh.Goals as goal

pub returns : goal.returns
returns c = λ transport local remote seed made second core w there new short usual unknown user hashes timely occurs. record {
  client = record { core = core; there = there; is = new };
  room = (short, subst (λ (o : AllocateOptions). IsLawfulAllocate c.args.config.now.families o) c.allocate_options-options.ensures (subst (λ (l : List AddressFamily). IsLawfulAllocate l c.allocate_options-options.result) c.requested_families-families.ensures c.proof_requests_are_lawful.ensures));
  usual = usual;
  text = c.names_are_texts.ensures;
  unknown = unknown;
  user = user;
  hashes = hashes;
  timely = timely;
  occurs = occurs;
}
