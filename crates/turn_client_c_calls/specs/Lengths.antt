-- The lengths that C passes.
use Rattle.std.specs.Prelude.{ℕ, Bool, nat_lt}

-- The size of the largest object that a program can have (PTRDIFF_MAX).
abbrev pub largest_object : ℕ
largest_object = 9_223_372_036_854_775_807

-- No object is of this length.
abbrev pub is_bad_length : ℕ → Bool
is_bad_length length = nat_lt largest_object length
