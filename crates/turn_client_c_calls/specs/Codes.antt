-- The results of calls, by the numbers of `enum turn_status`.
use Rattle.std.specs.Prelude.{◌==◌, ℤ, pos, negsuc, Bool, false}

-- Two statuses are equal.
abbrev pub same : ℤ → ℤ → Bool
same (pos n) (pos m) = n == m
same (negsuc n) (negsuc m) = n == m
same _ _ = false

abbrev pub ok : ℤ
ok = pos 0

abbrev pub nothing : ℤ
nothing = pos 1

abbrev pub ignored : ℤ
ignored = pos 2

abbrev pub payload : ℤ
payload = pos 3

abbrev pub icmp : ℤ
icmp = pos 4

abbrev pub closed : ℤ
closed = pos 5

abbrev pub open_socket : ℤ
open_socket = pos 6

abbrev pub close_socket : ℤ
close_socket = pos 7

-- -1 and less
abbrev pub no_client : ℤ
no_client = negsuc 0

abbrev pub already_open : ℤ
already_open = negsuc 1

abbrev pub bad_family : ℤ
bad_family = negsuc 2

abbrev pub bad_text : ℤ
bad_text = negsuc 3

abbrev pub long_name : ℤ
long_name = negsuc 4

abbrev pub bad_setting : ℤ
bad_setting = negsuc 5

abbrev pub small_buffer : ℤ
small_buffer = negsuc 6

abbrev pub unread : ℤ
unread = negsuc 7

abbrev pub no_allocation : ℤ
no_allocation = negsuc 8

abbrev pub already_exists : ℤ
already_exists = negsuc 9

abbrev pub no_permission : ℤ
no_permission = negsuc 10

abbrev pub no_channel : ℤ
no_channel = negsuc 11

abbrev pub expired_channel : ℤ
expired_channel = negsuc 12

abbrev pub no_socket : ℤ
no_socket = negsuc 13

abbrev pub too_large : ℤ
too_large = negsuc 14

abbrev pub no_memory : ℤ
no_memory = negsuc 15

abbrev pub zero_seed : ℤ
zero_seed = negsuc 16

abbrev pub bad_length : ℤ
bad_length = negsuc 17

abbrev pub bad_addresses : ℤ
bad_addresses = negsuc 18
