-- Powers in the field of 002's polynomial by logarithms: every byte but 0 is a power of z, so that all its powers are read off one list, and a test over all bytes
-- computes no products. That exponents add and multiply wants the product to associate with z alone, which is 9 * 9 computed cases.
use mathlib.Core.Path.{◌≡◌, refl, sym, ap, ◌∙◌}
use mathlib.Core.Bool.{Bool, true}
use mathlib.Core.List.{List, [], ◌∷◌}
use Prim.Native.Nat.{ℕ, zero, suc, ◌+◌, ◌*◌, ◌/◌, ◌%◌, ◌<◌}
use native.Mathlib.Nat.{add-zero, add-suc, mul-zero, mul-suc, mul_comm, mod-lt, zero-lt-suc, div-add-mod', le_of_suc-le-suc, not-suc-le-zero}
use native.Mathlib.Omega.{arith}
use lib.Dec.{T, eqb, eqb→eq, ltb, ltb→lt, lit<}
use lib.Bits.{bit_xor}
use lib.ListN.{length, get_or}
use Rattle.laws.specs.Choice.{choose}
use Rattle.laws.specs.Bytes.{Byte}
use Rattle.laws.specs.Field.{product, power}
use Rattle.laws.proofs.Test.{both, both_left, both_right}
use Rattle.laws.proofs.Additive.{bits_test, word_agree}
use Rattle.laws.proofs.Field.{product_lt, product_xor_l, product_xor_r, product_one}
use Rattle.laws.proofs.Power.{power_bits}
use Rattle.laws.proofs.Fields.{power_163}
use Rattle.hierocrypt3_tables.specs.Operations.{p}

-- z, and the product
abbrev z : ℕ
z = 2

abbrev ◌·◌ : ℕ → ℕ → ℕ
a · b = product p a b

infixl 70 ◌·◌
-- ---- the product associates with z
test : ℕ → Bool
test a = bits_test 8 (λ b. eqb ((a · b) · z) (a · (b · z)))

passed : T (bits_test 8 test)
unfolding test product
passed = tt

lt : (a b : ℕ) → Byte a → Byte (a · b)
lt a b h = product_lt p a b refl h

assoc : (a b : ℕ) → Byte a → Byte b → (a · b) · z ≡ a · (b · z)
unfolding test
assoc a b ha hb =
    word_agree bit_xor 8 (λ x. (x · b) · z) (λ x. x · (b · z))
    (λ x y hx hy. ap (λ (n : ℕ). n · z) (product_xor_l p x y b refl hx hy) ∙ product_xor_l p (x · b) (y · b) z refl (lt x b hx) (lt y b hy))
    (λ x y hx hy. product_xor_l p x y (b · z) refl hx hy)
    test
    (λ x hx ux.
    word_agree bit_xor 8 (λ y. (x · y) · z) (λ y. x · (y · z))
    (λ y w hy hw. ap (λ (n : ℕ). n · z) (product_xor_r p x y w) ∙ product_xor_l p (x · y) (x · w) z refl (lt x y hx) (lt x w hx))
    (λ y w hy hw. ap (λ (n : ℕ). x · n) (product_xor_l p y w z refl hy hw) ∙ product_xor_r p x (y · z) (w · z))
    (λ y. eqb ((x · y) · z) (x · (y · z)))
    (λ y hy uy. eqb→eq ((x · y) · z) (x · (y · z)) uy) ux b hb)
    passed a ha

-- ---- exponents add and multiply
pub power_lt : (a n : ℕ) → Byte (power p a n)
unfolding power
power_lt a zero = lit< tt
power_lt a (suc n) = product_lt p (power p a n) a refl (power_lt a n)

power_add : (i j : ℕ) → power p z i · power p z j ≡ power p z (i + j)
unfolding power
power_add i zero = product_one p (power p z i) ∙ ap (power p z) (sym (add-zero i))
power_add i (suc j) =
    sym (assoc (power p z i) (power p z j) (power_lt z i) (power_lt z j))
    ∙ ap (λ (n : ℕ). n · z) (power_add i j) ∙ ap (power p z) (sym (add-suc i j))

power_mul : (i n : ℕ) → power p (power p z i) n ≡ power p z (i * n)
unfolding power
power_mul i zero = ap (power p z) (sym (mul-zero i))
power_mul i (suc n) =
    ap (λ (x : ℕ). x · power p z i) (power_mul i n) ∙ power_add (i * n) i ∙ ap (power p z) (sym (mul-suc i n))

-- ---- and go round: z to the 255 is 1
period : power p z 255 ≡ 1
unfolding power_bits product
period = sym (power_163 z 255 (lit< tt) (lit< tt))

power_one : (n : ℕ) → power p 1 n ≡ 1
unfolding power product
power_one zero = refl
power_one (suc n) = ap (λ (x : ℕ). x · 1) (power_one n)

power_mod : (m : ℕ) → power p z m ≡ power p z (m % 255)
unfolding power
power_mod m =
    ap (power p z) (sym (div-add-mod' m 255))
    ∙ sym (power_add (m / 255 * 255) (m % 255))
    ∙ ap (λ (x : ℕ). x · power p z (m % 255))
    (ap (power p z) (mul_comm (m / 255) 255) ∙ sym (power_mul 255 (m / 255)) ∙ ap (λ (x : ℕ). power p x (m / 255)) period ∙ power_one (m / 255))
    ∙ power_add 0 (m % 255)
    ∙ ap (power p z) (zero_left (m % 255))
  where
    zero_left : (n : ℕ) → 0 + n ≡ n
    zero_left n = omega arith

-- ---- the powers of z
unfoldable pub powers : List ℕ
powers =
    1 ∷ 2 ∷ 4 ∷ 8 ∷ 16 ∷ 32 ∷ 64 ∷ 128 ∷ 99 ∷ 198 ∷ 239 ∷ 189 ∷ 25 ∷ 50 ∷ 100 ∷ 200
    ∷ 243 ∷ 133 ∷ 105 ∷ 210 ∷ 199 ∷ 237 ∷ 185 ∷ 17 ∷ 34 ∷ 68 ∷ 136 ∷ 115 ∷ 230 ∷ 175 ∷ 61 ∷ 122
    ∷ 244 ∷ 139 ∷ 117 ∷ 234 ∷ 183 ∷ 13 ∷ 26 ∷ 52 ∷ 104 ∷ 208 ∷ 195 ∷ 229 ∷ 169 ∷ 49 ∷ 98 ∷ 196
    ∷ 235 ∷ 181 ∷ 9 ∷ 18 ∷ 36 ∷ 72 ∷ 144 ∷ 67 ∷ 134 ∷ 111 ∷ 222 ∷ 223 ∷ 221 ∷ 217 ∷ 209 ∷ 193
    ∷ 225 ∷ 161 ∷ 33 ∷ 66 ∷ 132 ∷ 107 ∷ 214 ∷ 207 ∷ 253 ∷ 153 ∷ 81 ∷ 162 ∷ 39 ∷ 78 ∷ 156 ∷ 91
    ∷ 182 ∷ 15 ∷ 30 ∷ 60 ∷ 120 ∷ 240 ∷ 131 ∷ 101 ∷ 202 ∷ 247 ∷ 141 ∷ 121 ∷ 242 ∷ 135 ∷ 109 ∷ 218
    ∷ 215 ∷ 205 ∷ 249 ∷ 145 ∷ 65 ∷ 130 ∷ 103 ∷ 206 ∷ 255 ∷ 157 ∷ 89 ∷ 178 ∷ 7 ∷ 14 ∷ 28 ∷ 56
    ∷ 112 ∷ 224 ∷ 163 ∷ 37 ∷ 74 ∷ 148 ∷ 75 ∷ 150 ∷ 79 ∷ 158 ∷ 95 ∷ 190 ∷ 31 ∷ 62 ∷ 124 ∷ 248
    ∷ 147 ∷ 69 ∷ 138 ∷ 119 ∷ 238 ∷ 191 ∷ 29 ∷ 58 ∷ 116 ∷ 232 ∷ 179 ∷ 5 ∷ 10 ∷ 20 ∷ 40 ∷ 80
    ∷ 160 ∷ 35 ∷ 70 ∷ 140 ∷ 123 ∷ 246 ∷ 143 ∷ 125 ∷ 250 ∷ 151 ∷ 77 ∷ 154 ∷ 87 ∷ 174 ∷ 63 ∷ 126
    ∷ 252 ∷ 155 ∷ 85 ∷ 170 ∷ 55 ∷ 110 ∷ 220 ∷ 219 ∷ 213 ∷ 201 ∷ 241 ∷ 129 ∷ 97 ∷ 194 ∷ 231 ∷ 173
    ∷ 57 ∷ 114 ∷ 228 ∷ 171 ∷ 53 ∷ 106 ∷ 212 ∷ 203 ∷ 245 ∷ 137 ∷ 113 ∷ 226 ∷ 167 ∷ 45 ∷ 90 ∷ 180
    ∷ 11 ∷ 22 ∷ 44 ∷ 88 ∷ 176 ∷ 3 ∷ 6 ∷ 12 ∷ 24 ∷ 48 ∷ 96 ∷ 192 ∷ 227 ∷ 165 ∷ 41 ∷ 82
    ∷ 164 ∷ 43 ∷ 86 ∷ 172 ∷ 59 ∷ 118 ∷ 236 ∷ 187 ∷ 21 ∷ 42 ∷ 84 ∷ 168 ∷ 51 ∷ 102 ∷ 204 ∷ 251
    ∷ 149 ∷ 73 ∷ 146 ∷ 71 ∷ 142 ∷ 127 ∷ 254 ∷ 159 ∷ 93 ∷ 186 ∷ 23 ∷ 46 ∷ 92 ∷ 184 ∷ 19 ∷ 38
    ∷ 76 ∷ 152 ∷ 83 ∷ 166 ∷ 47 ∷ 94 ∷ 188 ∷ 27 ∷ 54 ∷ 108 ∷ 216 ∷ 211 ∷ 197 ∷ 233 ∷ 177 ∷ []

abbrev doubling : ℕ → List ℕ → Bool
doubling v [] = true
doubling v (x ∷ xs) = both (eqb x v) (doubling (v · z) xs)

doubled : (xs : List ℕ) (i : ℕ) → T (doubling (power p z i) xs) → (k : ℕ) → k < length xs → get_or xs k 0 ≡ power p z (i + k)
unfolding power
doubled [] i t k h = absurd (not-suc-le-zero h)
doubled (x ∷ xs) i t zero h =
    eqb→eq x (power p z i) (both_left (eqb x (power p z i)) (doubling (power p z (suc i)) xs) t) ∙ ap (power p z) (sym (add-zero i))
doubled (x ∷ xs) i t (suc k) h =
    let e : suc i + k ≡ i + suc k = omega arith in
    doubled xs (suc i) (both_right (eqb x (power p z i)) (doubling (power p z (suc i)) xs) t) k (le_of_suc-le-suc h) ∙ ap (power p z) e

powers_at : (k : ℕ) → k < 255 → get_or powers k 0 ≡ power p z k
unfolding powers power product
powers_at k h = doubled powers 0 tt k h ∙ ap (power p z) (zero_left k)
  where
    zero_left : (n : ℕ) → 0 + n ≡ n
    zero_left n = omega arith

-- ---- the power of any byte, by its logarithm
abbrev log : ℕ → ℕ → List ℕ → ℕ
log a i [] = i
log a i (x ∷ xs) = choose (eqb a x) i (log a (suc i) xs)

abbrev log_test : ℕ → ℕ → ℕ → ℕ → Bool
log_test a n v i = both (both (ltb i 255) (eqb (get_or powers i 0) a)) (eqb v (get_or powers (i * n % 255) 0))

abbrev pub power_test : ℕ → ℕ → ℕ → Bool
power_test zero n v = eqb v 0
power_test (suc a) n v = log_test (suc a) n v (log (suc a) 0 powers)

by_log : (a n v i : ℕ) → T (log_test a n v i) → v ≡ power p a n
by_log a n v i t =
    let here = both (ltb i 255) (eqb (get_or powers i 0) a) in
    let last = eqb v (get_or powers (i * n % 255) 0) in
    let t₁ = both_left here last t in
    let l : i < 255 = ltb→lt i 255 (both_left (ltb i 255) (eqb (get_or powers i 0) a) t₁) in
    let e : a ≡ power p z i = sym (eqb→eq (get_or powers i 0) a (both_right (ltb i 255) (eqb (get_or powers i 0) a) t₁)) ∙ powers_at i l in
    eqb→eq v (get_or powers (i * n % 255) 0) (both_right here last t)
    ∙ powers_at (i * n % 255) (mod-lt (i * n) (zero-lt-suc 254))
    ∙ sym (power_mod (i * n)) ∙ sym (power_mul i n) ∙ ap (λ (x : ℕ). power p x n) (sym e)

pub power_by : (a n v : ℕ) → T (power_test a (suc n) v) → v ≡ power p a (suc n)
unfolding power product
power_by zero n v t = eqb→eq v 0 t
power_by (suc a) n v t = by_log (suc a) (suc n) v (log (suc a) 0 powers) t
