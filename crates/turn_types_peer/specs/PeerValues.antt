-- Values of attributes that concern peers (RFC 8656, sections 18.1, 18.4 and 18.13).
use Rattle.std.specs.Prelude.{ℕ, List, ◌∷◌, ◌++◌, slice_index, drop}
use Rattle.byteorder.specs.Endian.{big_bytes, big_number}

-- The value of a CHANNEL-NUMBER: the channel number and two zero bytes, which a reader ignores.
abbrev pub channel_value : ℕ → List ℕ
channel_value channel = big_bytes 2 channel ++ big_bytes 2 0

-- An ICMP error that a host or router on the path to a peer reports.
pub record IcmpReport : Type 0 where
  pub icmp_type : ℕ
  pub code : ℕ
  pub details : ℕ

-- The value of an ICMP attribute: two zero bytes, which a reader ignores, the type, the code and the error
-- data.
abbrev pub icmp_value : IcmpReport → List ℕ
icmp_value report = 0 ∷ 0 ∷ report.icmp_type ∷ report.code ∷ big_bytes 4 report.details

-- The report decoded from eight bytes.
abbrev pub icmp_decoded : List ℕ → IcmpReport
icmp_decoded value = record {
  icmp_type = slice_index value 2;
  code = slice_index value 3;
  details = big_number 4 (drop 4 value);
}
