-- Fields of a file (own): the number of a field's bytes, the test that they pass, the value that they hold, and the
-- bytes of a value.
use Rattle.std.specs.Prelude.{◌≡◌, ℕ, ◌+◌, ◌-◌, ◌*◌, ◌/◌, ◌&&◌, not, Bool, true, List, ◌++◌, length, map, take, drop, ℤ}
use Rattle.std.specs.Int.{Width, byte_len, from_be_bytes, to_be_bytes, cast_signed, cast_unsigned}
use Rattle.std.specs.List.{list_all, flat_map, range_with_len}
use Rattle.s2_bits.specs.Bits.{bit_of_bytes, byte_at}

-- a field of a file: how many bytes it has, the test that they pass, their value, and the bytes of a value
pub record Field (A : Type 0) : Type 0 where
  pub size : ℕ
  pub test : List ℕ → Bool
  pub value : List ℕ → A
  pub bytes : A → List ℕ

-- a number, big endian
abbrev pub number : Width → Field ℕ
number w = record { size = byte_len w; test = λ bytes. true; value = from_be_bytes w; bytes = to_be_bytes w }

-- a number in two's complement, big endian
abbrev pub signed : Width → Field ℤ
signed w = record {
  size = byte_len w;
  test = λ bytes. true;
  value = λ bytes. cast_signed w (from_be_bytes w bytes);
  bytes = λ z. to_be_bytes w (cast_unsigned w z);
}

-- a field whose value meets a test
abbrev pub tested : {A : Type 0} → Field A → (A → Bool) → Field A
tested f p = record { size = f.size; test = λ bytes. p (f.value bytes); value = f.value; bytes = f.bytes }

-- a field, and another right after it
abbrev pub both : {A B : Type 0} → Field A → Field B → Field (A × B)
both f g = record {
  size = f.size + g.size;
  test = λ bytes. f.test (take f.size bytes) && g.test (drop f.size bytes);
  value = λ bytes. (f.value (take f.size bytes), g.value (drop f.size bytes));
  bytes = λ x. f.bytes x.0 ++ g.bytes x.1;
}

-- ---- lists

-- the first n places of a list
abbrev pub places : ℕ → List ℕ
places n = range_with_len 0 n

-- the bytes of entry i in a list of fields
abbrev pub entry : ℕ → List ℕ → ℕ → List ℕ
entry size bytes i = take size (drop (i * size) bytes)

-- n fields, one after the other
abbrev pub many : {A : Type 0} → ℕ → Field A → Field (List A)
many n f = record {
  size = n * f.size;
  test = λ bytes. list_all (λ i. f.test (entry f.size bytes i)) (places n);
  value = λ bytes. map (λ i. f.value (entry f.size bytes i)) (places n);
  bytes = λ xs. flat_map f.bytes xs;
}

-- ---- bits

-- the bits of some bytes from n on are zero
abbrev pub is_padded : List ℕ → ℕ → Bool
is_padded bytes n = list_all (λ i. not (bit_of_bytes bytes i)) (range_with_len n (8 * length bytes - n))

-- eight bits to a byte, the first the highest, and zeros past the end
abbrev pub bytes_of_bits : List Bool → List ℕ
bytes_of_bits bits = map (λ k. byte_at bits (8 * k)) (places ((length bits + 7) / 8))

-- n bits, each byte's highest first, padded with zeros to a byte
abbrev pub bit_list : ℕ → Field (List Bool)
bit_list n = record {
  size = (n + 7) / 8;
  test = λ bytes. is_padded bytes n;
  value = λ bytes. map (bit_of_bytes bytes) (places n);
  bytes = bytes_of_bits;
}

-- the bytes written for values of a sort have the field's length, pass its test, and are read back
pub record IsField {A : Type 0} (f : Field A) (Fits : A → Type 0) : Type 0 where
  pub long : (x : A) → Fits x → length (f.bytes x) ≡ f.size
  pub passes : (x : A) → Fits x → f.test (f.bytes x) ≡ true
  pub back : (x : A) → Fits x → f.value (f.bytes x) ≡ x
