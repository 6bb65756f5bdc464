-- NAMES ARE UTF-8 (rule 87), shown code point by code point (rule 116): of any row, on any tape of bytes. Assumes nothing.
use Prim.Native.Nat.{ℕ, zero, suc, ◌+◌, ◌/◌, ◌%◌, ◌<◌}
use Prim.Native.String.{String, [] as []ᵗ, ◌∷◌ as ◌∷ᵗ◌}
use Prim.Native.Char.{code}
use native.Mathlib.Omega.{arith}
use mathlib.Core.Path.{◌≡◌, refl, sym, subst}
use mathlib.Core.Bool.{Bool, true, false, ◌&&◌}
use mathlib.Core.List.{List, [], ◌∷◌, map}
use lib.ListN.{get_or, take, drop, get_or-map}
use lib.Dec.{ltb, eqb}
use borrow.Author.Tests.{lt-ltb, ltb-true}
use Rattle.law_base.specs.Rules.{◌⇒◌, ◌∣◌}
use Rattle.law_base.proofs.Tests.{first, second}
use Rattle.text_out.specs.Out.{ascii, utf8_of, utf8, digits, decimal, latin1, each_byte, latin}
use Rattle.text_codes.specs.Encoding.{code_texts, table, encoded, spelled}
use Rattle.text_name.specs.Headers.{type_name, header_name}
use Rattle.rows.specs.declared.Block.{Block}
use Rattle.text_name.specs.Names.{is_header, size_shown, size_name, guessed, name_of}
use Rattle.text_listing.specs.Shown.{shown}
use Rattle.text_listing.specs.Points.{bytes_of, is_scalar, Utf8, shown_point}
use Rattle.text_listing.proofs.Utf8.{utf8-none, utf8_join, utf8_rule, utf8_one, utf8-plain}
use Rattle.text_listing.proofs.Points.{shown_points}
use Rattle.law_every_load.specs.Sizes.{Bytes}
use Rattle.law_promises.specs.Texts.{code_points, header_points, name_points}

-- a part of a tape's bytes
bytes_drop : (n : ℕ) (s : List ℕ) → Bytes s → Bytes (drop n s)
bytes_drop zero s h = h
bytes_drop (suc n) [] h = h
bytes_drop (suc n) (b ∷ s) h = bytes_drop n s (λ i. h (suc i))

bytes_take : (n : ℕ) (s : List ℕ) → Bytes s → Bytes (take n s)
bytes_take zero s h i = omega arith
bytes_take (suc n) [] h i = omega arith
bytes_take (suc n) (b ∷ s) h zero = h zero
bytes_take (suc n) (b ∷ s) h (suc i) = bytes_take n s (λ j. h (suc j)) i

-- A GIVEN NAME: byte b is code point b
latin_byte : (b : ℕ) → b < 256 → latin1 b ≡ bytes_of b
unfolding latin1 bytes_of
latin_byte b h = rw (lt-ltb b 0x800 (omega arith))

latin-utf8 : (bs : List ℕ) → Bytes bs → Utf8 (latin bs) bs
unfolding each_byte is_scalar
latin-utf8 [] h = utf8-none
latin-utf8 (b ∷ bs) h =
    let k : b < 256 = h 0 in
    utf8_join (utf8_one b (latin_byte b k) (rw (lt-ltb b 0xD800 (omega arith)))) (latin-utf8 bs (λ i. h (suc i)))

-- A HEADER'S NAME: each of the 256 texts has scalar values below 65,536 alone, by one computed test
abbrev near : List ℕ → Bool
near [] = true
near (p ∷ ps) = (ltb p 0x10000 && is_scalar p) && near ps

abbrev all_near : List String → Bool
all_near [] = true
all_near (t ∷ ts) = near (ascii t) && all_near ts

texts_near : all_near code_texts ≡ true
unfolding is_scalar
texts_near = refl

near_at : (ts : List String) → all_near ts ≡ true → (k : ℕ) → near (ascii (get_or ts k "")) ≡ true
near_at [] e k = refl
near_at (t ∷ ts) e zero = first (near (ascii t)) (all_near ts) e
near_at (t ∷ ts) e (suc k) = near_at ts (second (near (ascii t)) (all_near ts) e) k

near_point : (p : ℕ) → p < 0x10000 → utf8_of p ≡ bytes_of p
unfolding bytes_of
near_point p h = rw (lt-ltb p 0x10000 h)

near_utf8 : (t : String) → near (ascii t) ≡ true → Utf8 (utf8 t) (ascii t)
near_utf8 []ᵗ e = utf8-none
near_utf8 (c ∷ᵗ t) e =
    let p = code c in
    let h = first (ltb p 0x10000 && is_scalar p) (near (ascii t)) e in
    let k = ltb-true p 0x10000 (first (ltb p 0x10000) (is_scalar p) h) in
    utf8_join (utf8_one p (near_point p k) (second (ltb p 0x10000) (is_scalar p) h))
    (near_utf8 t (second (ltb p 0x10000 && is_scalar p) (near (ascii t)) e))

code_utf8 : (c : ℕ) → Utf8 (encoded c) (code_points c)
unfolding encoded table code_points
code_utf8 c =
    let t = get_or code_texts c "" in
    subst (λ (l : List ℕ). Utf8 l (ascii t)) (sym (get_or-map utf8 code_texts c "")) (near_utf8 t (near_at code_texts texts_near c))

spelled-utf8 : (cs : List ℕ) → Utf8 (spelled cs) (each_byte code_points cs)
unfolding each_byte
spelled-utf8 [] = utf8-none
spelled-utf8 (c ∷ cs) = utf8_join (code_utf8 c) (spelled-utf8 cs)

-- ASCII: digits, and words as they stand
below_ten : (n : ℕ) (t : Bool) {more : List ℕ} → ltb n 10 ≡ t → Utf8 more more
    → Utf8 (t ⇒ ((48 + n) ∷ []) ∣ more) (t ⇒ ((48 + n) ∷ []) ∣ more)
below_ten n true e u = let h = ltb-true n 10 e in utf8-plain (48 + n) (omega arith)
below_ten n false e u = u

digits_utf8 : (f n : ℕ) → Utf8 (digits f n) (digits f n)
unfolding digits
digits_utf8 zero n = utf8-none
digits_utf8 (suc f) n = below_ten n (ltb n 10) refl (utf8_join (digits_utf8 f (n / 10)) (utf8-plain (48 + n % 10) (omega arith)))

decimal-utf8 : (n : ℕ) → Utf8 (decimal n) (decimal n)
unfolding decimal
decimal-utf8 n = digits_utf8 20 n

type_utf8 : (b : ℕ) → Utf8 (type_name b) (type_name b)
unfolding type_name is_scalar
type_utf8 b =
    utf8_rule (eqb b 0) (near_utf8 "Program" refl)
    (utf8_rule (eqb b 1) (near_utf8 "Array" refl)
    (utf8_rule (eqb b 3) (near_utf8 "Bytes" refl)
    (utf8_join (near_utf8 "Type " refl) (decimal-utf8 b))))

header_utf8 : (s : List ℕ) (start : ℕ) → Utf8 (header_name s start) (header_points s start)
unfolding header_name header_points is_scalar
header_utf8 s start =
    utf8_join (type_utf8 (get_or s (start + 1) 0)) (utf8_join (near_utf8 ": " refl) (spelled-utf8 (take 10 (drop (start + 2) s))))

size_utf8 : (r : Block) → Utf8 (size_name r) (size_name r)
unfolding size_name is_scalar
size_utf8 r = utf8_join (decimal-utf8 (size_shown r)) (near_utf8 " bytes" refl)

-- EVERY NAME is the UTF-8 of its code points
pub names_utf8 : (s : List ℕ) (r : Block) → Bytes s → Utf8 (name_of s r) (name_points s r)
unfolding name_of guessed name_points is_scalar
names_utf8 s r h =
    utf8_rule (eqb r.named 0) (utf8_rule (is_header s r) (header_utf8 s r.start) (size_utf8 r))
    (utf8_rule (eqb r.named 1) (near_utf8 "stop" refl)
    (latin-utf8 (take r.chars (drop r.text s)) (bytes_take r.chars (drop r.text s) (bytes_drop r.text s h))))

-- AS A LISTING SHOWS IT: these code points, but `?` for those below 32 and from 127 to 159
pub names_shown : (s : List ℕ) (r : Block) → Bytes s → Utf8 (shown (name_of s r)) (map shown_point (name_points s r))
names_shown s r h = shown_points (names_utf8 s r h)
