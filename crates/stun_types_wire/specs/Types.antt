-- The message type: its class and its method, bit by bit (RFC 8489, section 5, figure 3).
use Rattle.std.specs.Prelude.{ℕ, ◌+◌, ◌*◌, ◌/◌, ◌%◌, Bool, ◌==◌, if◌then◌else◌}
use Rattle.stun_types_wire.specs.declared.class.MessageClass.{MessageClass}
use Rattle.stun_types_wire.specs.declared.class.MessageClass.TheVariants.{Request, Indication, Success, Error}

-- The low bit of a class, called C0. Its value in the message type is 0x0010.
abbrev pub low_class_bit : MessageClass → ℕ
low_class_bit Request = 0
low_class_bit Indication = 1
low_class_bit Success = 0
low_class_bit Error = 1

-- The high bit of a class, called C1. Its value in the message type is 0x0100.
abbrev pub high_class_bit : MessageClass → ℕ
high_class_bit Request = 0
high_class_bit Indication = 0
high_class_bit Success = 1
high_class_bit Error = 1

-- The message type of a class and a method of twelve bits. Bits 0 to 3 of the method keep their position,
-- bits 4 to 6 move up by one, and bits 7 to 11 by two.
abbrev pub type_of : MessageClass → ℕ → ℕ
type_of class method =
    method % 16 + 0x10 * low_class_bit class + method / 16 % 8 * 0x20 + 0x100 * high_class_bit class
    + method / 128 * 0x200

-- The class in a message type.
abbrev pub class_of : ℕ → MessageClass
class_of kind =
    if kind / 0x100 % 2 == 0 then (if kind / 0x10 % 2 == 0 then Request else Indication)
    else (if kind / 0x10 % 2 == 0 then Success else Error)

-- The method in a message type.
abbrev pub method_of : ℕ → ℕ
method_of kind = kind % 16 + kind / 0x20 % 8 * 16 + kind / 0x200 * 128

-- Whether a class is that of a response.
abbrev pub is_response_class : MessageClass → Bool
is_response_class class = high_class_bit class == 1
