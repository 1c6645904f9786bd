-- Channel numbers and ICMP reports, and their values.
use Rattle.std.proofs.Common.{◌≡◌, ℕ, ◌^◌, ◌<◌, [], None, refl, sym, ap, ◌∙◌, arith}
use Rattle.byteorder.specs.Endian.{big_bytes, big_number}
use Rattle.byteorder.specs.Numbers.{big_number-reads_back}
use Rattle.turn_types_attributes.specs.Write.Adding.{attr_of}
use Rattle.turn_types_attributes.specs.Write.ValueReading.{value_refusal}
use Rattle.turn_types_attributes.proofs.Write.Values.{value_is_accepted}
use Rattle.turn_types_peer.specs.PeerValues.{channel_value, IcmpReport, icmp_value, icmp_decoded}

number_again : (n : ℕ) → n < 2 ^ 16 → big_number 2 (channel_value n) ≡ n
number_again n small = big_number-reads_back 2 n (big_bytes 2 0) small

-- Decoding a written channel number gives a number with the same value.
pub channel_again : (n : ℕ) → n < 2 ^ 16 → channel_value (big_number 2 (channel_value n)) ≡ channel_value n
channel_again n small = ap channel_value (number_again n small)

-- Two channel numbers with the same value are equal.
pub same_channel : (m n : ℕ) → m < 2 ^ 16 → n < 2 ^ 16 → channel_value m ≡ channel_value n → m ≡ n
same_channel m n m_small n_small h =
    sym (number_again m m_small) ∙ ap (big_number 2) h ∙ number_again n n_small

-- Reading does not reject a written channel number.
pub channel_is_accepted : (kind n : ℕ) → value_refusal kind 4 4 (attr_of kind (channel_value n)) ≡ None
channel_is_accepted kind n = value_is_accepted kind 4 4 (channel_value n) (omega arith) (omega arith)

report_decoded : (r : IcmpReport) → r.details < 2 ^ 32 → icmp_decoded (icmp_value r) ≡ r
report_decoded r small = rw (big_number-reads_back 4 r.details [] small) refl

-- Decoding a written report gives a report with the same value.
pub report_again : (r : IcmpReport) → r.details < 2 ^ 32 → icmp_value (icmp_decoded (icmp_value r)) ≡ icmp_value r
report_again r small = ap icmp_value (report_decoded r small)

-- Two reports with the same value are equal.
pub same_report : (q r : IcmpReport) → q.details < 2 ^ 32 → r.details < 2 ^ 32 → icmp_value q ≡ icmp_value r → q ≡ r
same_report q r q_small r_small h =
    sym (report_decoded q q_small) ∙ ap icmp_decoded h ∙ report_decoded r r_small

-- Reading does not reject a written report.
pub report_is_accepted : (kind : ℕ) (r : IcmpReport) → value_refusal kind 8 8 (attr_of kind (icmp_value r)) ≡ None
report_is_accepted kind r = value_is_accepted kind 8 8 (icmp_value r) (omega arith) (omega arith)

-- A written report is accepted and is read back.
pub ruleset reports = (report_is_accepted, report_again, same_report)

-- A written channel number is accepted and is read back.
pub ruleset channels = (channel_is_accepted, channel_again, same_channel)
