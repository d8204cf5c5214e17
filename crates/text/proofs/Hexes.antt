-- Hex digit by digit.
use Rattle.std.proofs.Common.{◌≡◌, ℕ, suc, ◌+◌, ◌/◌, ◌%◌, ◌^◌, ◌-◌, ◌<◌, Bool, false, cond, ◌&&◌, ◌==◌, List, [], ◌∷◌, ◌++◌, length, get_or, take, Some, None, is_some, All, Option, Result, Ok, Err, sym, refl, ap, ◌∙◌, arith}
use Rattle.std.proofs.lemmas.Grind.{common_steps}
use Rattle.std.specs.Char.{is_ascii_hexdigit}
use Rattle.std.specs.List.{list_all}
use Rattle.std.specs.Option.{option_map}
use Rattle.std.proofs.lemmas.List.{take_more}
use Rattle.std.proofs.lemmas.List.Elements.{All-head, All-tail}
use Rattle.std.proofs.lemmas.Bool.{cond-false, and_right}
use Rattle.std.proofs.lemmas.Fmt.{hex_byte}
use Rattle.std.specs.Fmt.{padded_integral, format_spec, digits}
use Rattle.std.specs.Result.{result_ok}
use Rattle.hex.specs.Hex.{◌>>=◌, hex_digit_value, pair_value, decode_pairs, decode_of, decode_sized}
use Rattle.hex.specs.declared.error.FromHexError.{FromHexError}
use Rattle.text.specs.Hex.{nibble, joined, octet, before, octets, sized, digit, spelled, HexReadsBack}

-- a digit has one value here and in the library
nibble-hex : (c : ℕ) → nibble c ≡ hex_digit_value c
nibble-hex c = grind arith

octet-hex : (a b i : ℕ) → octet a b ≡ result_ok (pair_value a b i)
octet-hex a b i = grind (arith, nibble-hex a, nibble-hex b)

before-bind : (p : Result ℕ FromHexError) (r : Result (List ℕ) FromHexError) → before (result_ok p) (result_ok r) ≡ result_ok (p >>= λ b. r >>= λ bs. Ok (b ∷ bs))
before-bind (Ok b) (Ok bs) = refl
before-bind (Ok b) (Err e) = refl
before-bind (Err e) r = refl

octets-hex : (i : ℕ) (ds : List ℕ) → octets ds ≡ result_ok (decode_pairs i ds)
unfolding octets decode_pairs
octets-hex i [] = refl
octets-hex i (a ∷ []) = refl
octets-hex i (a ∷ (b ∷ cs)) =
    (λ j. before (octet-hex a b i j) (octets-hex (i + 2) cs j)) ∙ before-bind (pair_value a b i) (decode_pairs (i + 2) cs)

-- an odd number of digits spells nothing
octets_odd : (ds : List ℕ) → length ds % 2 ≡ 1 → octets ds ≡ None
unfolding octets
octets_odd [] o = absurd (omega arith)
octets_odd (a ∷ []) o = refl
octets_odd (a ∷ (b ∷ cs)) o = let e = octets_odd cs (omega arith) in rw e grind arith

-- what the library reads
pub octets-decode : (ds : List ℕ) → octets ds ≡ result_ok (decode_of ds)
octets-decode ds = grind (arith, octets_odd ds, octets-hex 0 ds)

nibble-is : (c : ℕ) → is_some (nibble c) ≡ is_ascii_hexdigit c
nibble-is c = grind arith

octet-is : (a b : ℕ) → is_some (octet a b) ≡ (is_ascii_hexdigit a && is_ascii_hexdigit b)
octet-is a b =
    (λ i. some_of (nibble a) (nibble b) i) ∙ (λ i. nibble-is a i && nibble-is b i)
  where
    some_of : (h l : Option ℕ) → is_some (joined h l) ≡ (is_some h && is_some l)
    some_of None l = refl
    some_of (Some h) None = refl
    some_of (Some h) (Some l) = refl

-- a byte in front of those of n digits
before-len : (o : Option ℕ) (p : Option (List ℕ)) (n : ℕ) (x y z : Bool) → is_some o ≡ (x && y) → option_map length p ≡ cond (n % 2 == 0 && z) (Some (n / 2)) None
    → option_map length (before o p) ≡ cond ((suc (suc n)) % 2 == 0 && (x && (y && z))) (Some ((suc (suc n)) / 2)) None
before-len o p n x y z s e = grind (arith, common_steps)

-- how many bytes digits spell
pub octets-len : (ds : List ℕ) → option_map length (octets ds) ≡ cond (length ds % 2 == 0 && list_all is_ascii_hexdigit ds) (Some (length ds / 2)) None
unfolding octets
octets-len [] = refl
octets-len (a ∷ []) = refl
octets-len (a ∷ (b ∷ cs)) = before-len (octet a b) (octets cs) (length cs) _ _ _ (octet-is a b) (octets-len cs)

-- what the library reads into an array
pub octets-sized : (n : ℕ) (ds : List ℕ) → sized n (octets ds) ≡ result_ok (decode_sized ds n)
octets-sized n ds = grind (arith, common_steps, octets_odd ds, octets-hex 0 ds, octets-len ds)

nibble-digit : (d : ℕ) → d < 16 → nibble (digit d) ≡ Some d
nibble-digit d l = grind arith

octet_digits : (b : ℕ) → b < 256 → octet (digit (b / 16)) (digit (b % 16)) ≡ Some b
octet_digits b l =
    (λ i. joined (nibble-digit (b / 16) (omega arith) i) (nibble-digit (b % 16) (omega arith) i)) ∙ ap (λ n. Some n) (omega arith)

octets-spelled : (bs : List ℕ) → All (λ b. b < 256) bs → octets (spelled bs) ≡ Some bs
unfolding octets spelled
octets-spelled [] a = refl
octets-spelled (b ∷ bs) a = (λ i. before (octet_digits b (All-head (λ n. n < 256) b bs a) i) (octets-spelled bs (All-tail (λ n. n < 256) b bs a) i))

pub reads_back : HexReadsBack
unfolding spelled
reads_back [] a = refl
reads_back (b ∷ bs) a = cond-false _ _ _ (and_right _ _ refl) ∙ octets-spelled (b ∷ bs) a

spelled-push : (xs : List ℕ) (b : ℕ) → spelled (xs ++ (b ∷ [])) ≡ spelled xs ++ (digit (b / 16) ∷ (digit (b % 16) ∷ []))
unfolding spelled
spelled-push [] b = refl
spelled-push (x ∷ xs) b = ap (λ l. digit (x / 16) ∷ (digit (x % 16) ∷ l)) (spelled-push xs b)

-- one byte more is written, as `{:02x}` writes it
pub spelled-more : (xs : List ℕ) (i : ℕ) → i < length xs → get_or xs i 0 < 256
    → spelled (take i xs) ++ padded_integral (format_spec 32 0 4 2 (2 ^ 64 - 1)) false [] (digits 16 false (get_or xs i 0)) ≡ spelled (take (i + 1) xs)
spelled-more xs i l b =
    ap (λ ds. spelled (take i xs) ++ ds) (hex_byte false (get_or xs i 0) b)
    ∙ sym (spelled-push (take i xs) (get_or xs i 0)) ∙ ap spelled (sym (take_more xs i 0 l))

pub spelled_none : spelled [] ≡ []
unfolding spelled
spelled_none = refl
