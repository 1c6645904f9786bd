-- Runs of a simulation whose client is new are safe.
use Rattle.std.proofs.Common.{List}
use Rattle.turn_desk_step_laws.specs.TurnRuns.Headline.{IsPromised}
use Rattle.turn_desk_step_laws.specs.TurnRuns.Runs.{IsCounted, IsNew, Step}
use Rattle.turn_desk_step_laws.proofs.TurnRunsLaws.Safe.{counted, promised}
use Rattle.turn_desk_step_laws.proofs.TurnRunsLaws.Lawful.{lawful}
use Rattle.turn_client_proto_step_laws.specs.Beginning.{first_client}
use Rattle.turn_client_proto_step_laws.specs.RunClient.{Client}
use Rattle.turn_client_proto_step_laws.proofs.Beginning.{new_sound, new_unasked}
use Rattle.turn_desk_event.specs.declared.answer.Answer.{Answer}
use Rattle.turn_desk_event.specs.declared.event.Event.{Event}
use Rattle.turn_desk_step_laws.specs.DeskRun.{DeskCall, desk_words}
use Rattle.turn_desk_world.specs.Model.{World}
use Rattle.turn_desk_world.specs.Runs.{IsRun}
use Rattle.turn_desk_world_laws.specs.Safety.{IsAccount, IsSafeRun, words}
use Rattle.turn_desk_world_laws.proofs.Ends.{end_with_sockets}
use Rattle.turn_desk_world_laws.proofs.Reporting.{all_decoded}

pub run_is_safe : (pairs : List (Event × Answer)) (old new : World) → IsRun old pairs new → IsSafeRun old pairs new
run_is_safe pairs old new is transport here server config seed core begins fair =
    let first : Client = first_client config.credentials seed core in
    let reported = all_decoded pairs first old new (new_sound transport here server config seed core begins.new begins.short begins.few) begins.client fair is in
    let unasked : IsNew words first = new_unasked transport here server config seed core begins.new desk_words in
    let promise : IsPromised words first reported.run reported.last = promised words lawful first reported.run reported.last unasked reported.leads reported.lawful in
    record {
      one = record {
        run = reported.run;
        reported = reported.reported;
        last = reported.last;
        left = reported.left;
        leads = reported.leads;
        lawful = reported.lawful;
        counted = counted words first reported.run reported.last reported.leads reported.lawful;
        sound = reported.sound;
        safe = promise.safe;
        once = promise.once;
        visible = promise.visible;
      };
      each = λ run last account. (
        counted words first run last account.leads account.lawful,
        promised words lawful first run last unasked account.leads account.lawful,
        end_with_sockets first old pairs new run last begins.client account,
      );
    }

pub account_counts : (first : Client) (old : World) (pairs : List (Event × Answer)) (new : World) (run : List (Step Client DeskCall)) (last : Client) → IsAccount first old pairs new run last → IsCounted words first run last
account_counts first old pairs new run last is = counted words first run last is.leads is.lawful
