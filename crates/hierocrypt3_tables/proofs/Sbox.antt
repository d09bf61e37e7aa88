-- s and its inverse (002, section 3.6): their tables, each held to its rule by one test over all bytes.
use mathlib.Core.Bool.{Bool}
use mathlib.Core.Path.{◌≡◌, refl, sym, ap, ◌∙◌}
use mathlib.Core.List.{List, [], ◌∷◌}
use Prim.Native.Nat.{ℕ}
use lib.Dec.{T, eqb, eqb→eq}
use lib.Bits.{bit_xor}
use lib.ListN.{get_or}
use Rattle.laws.specs.Bytes.{Byte}
use Rattle.laws.proofs.Test.{both, both_left, both_right}
use Rattle.laws.proofs.Xor.{xor_cancel_r}
use Rattle.laws.proofs.Places.{tab_is, get_or-tab}
use Rattle.laws.proofs.Table.{table_at}
use Rattle.hierocrypt3_tables.specs.Operations.{s, s⁻, permute_bits, permute_bits⁻}
use Rattle.hierocrypt3_tables.specs.code.Tables.{s_table, s_table⁻}
use Rattle.hierocrypt3_tables.proofs.Logs.{powers, power_test, power_by}

-- ---- the tables, with the code's entries
unfoldable pub entries : List ℕ
entries =
    7 ∷ 252 ∷ 85 ∷ 112 ∷ 152 ∷ 142 ∷ 132 ∷ 78 ∷ 188 ∷ 117 ∷ 206 ∷ 24 ∷ 2 ∷ 233 ∷ 93 ∷ 128
    ∷ 28 ∷ 96 ∷ 120 ∷ 66 ∷ 157 ∷ 46 ∷ 245 ∷ 232 ∷ 198 ∷ 122 ∷ 47 ∷ 164 ∷ 178 ∷ 95 ∷ 25 ∷ 135
    ∷ 11 ∷ 155 ∷ 156 ∷ 211 ∷ 195 ∷ 119 ∷ 61 ∷ 111 ∷ 185 ∷ 45 ∷ 77 ∷ 247 ∷ 140 ∷ 167 ∷ 172 ∷ 23
    ∷ 60 ∷ 90 ∷ 65 ∷ 201 ∷ 41 ∷ 237 ∷ 222 ∷ 39 ∷ 105 ∷ 48 ∷ 114 ∷ 168 ∷ 149 ∷ 62 ∷ 249 ∷ 216
    ∷ 33 ∷ 139 ∷ 68 ∷ 215 ∷ 17 ∷ 13 ∷ 72 ∷ 253 ∷ 106 ∷ 1 ∷ 87 ∷ 229 ∷ 189 ∷ 133 ∷ 236 ∷ 30
    ∷ 55 ∷ 159 ∷ 181 ∷ 154 ∷ 124 ∷ 9 ∷ 241 ∷ 177 ∷ 148 ∷ 129 ∷ 130 ∷ 8 ∷ 251 ∷ 192 ∷ 81 ∷ 15
    ∷ 97 ∷ 127 ∷ 26 ∷ 86 ∷ 150 ∷ 19 ∷ 193 ∷ 103 ∷ 153 ∷ 3 ∷ 94 ∷ 182 ∷ 202 ∷ 250 ∷ 158 ∷ 223
    ∷ 214 ∷ 131 ∷ 204 ∷ 162 ∷ 18 ∷ 35 ∷ 183 ∷ 101 ∷ 208 ∷ 57 ∷ 125 ∷ 59 ∷ 213 ∷ 176 ∷ 175 ∷ 31
    ∷ 6 ∷ 200 ∷ 52 ∷ 197 ∷ 27 ∷ 121 ∷ 75 ∷ 102 ∷ 191 ∷ 136 ∷ 74 ∷ 196 ∷ 239 ∷ 88 ∷ 63 ∷ 10
    ∷ 44 ∷ 115 ∷ 209 ∷ 248 ∷ 107 ∷ 230 ∷ 32 ∷ 184 ∷ 34 ∷ 67 ∷ 179 ∷ 51 ∷ 231 ∷ 240 ∷ 113 ∷ 126
    ∷ 82 ∷ 137 ∷ 71 ∷ 99 ∷ 14 ∷ 109 ∷ 227 ∷ 190 ∷ 89 ∷ 100 ∷ 238 ∷ 246 ∷ 56 ∷ 92 ∷ 244 ∷ 91
    ∷ 73 ∷ 212 ∷ 224 ∷ 243 ∷ 187 ∷ 84 ∷ 38 ∷ 43 ∷ 0 ∷ 134 ∷ 144 ∷ 255 ∷ 254 ∷ 166 ∷ 123 ∷ 5
    ∷ 173 ∷ 104 ∷ 161 ∷ 16 ∷ 235 ∷ 199 ∷ 226 ∷ 242 ∷ 70 ∷ 138 ∷ 108 ∷ 20 ∷ 110 ∷ 207 ∷ 53 ∷ 69
    ∷ 80 ∷ 210 ∷ 146 ∷ 116 ∷ 147 ∷ 225 ∷ 218 ∷ 174 ∷ 169 ∷ 83 ∷ 228 ∷ 64 ∷ 205 ∷ 186 ∷ 151 ∷ 163
    ∷ 145 ∷ 49 ∷ 37 ∷ 118 ∷ 54 ∷ 50 ∷ 40 ∷ 58 ∷ 36 ∷ 76 ∷ 219 ∷ 217 ∷ 141 ∷ 220 ∷ 98 ∷ 42
    ∷ 234 ∷ 21 ∷ 221 ∷ 194 ∷ 165 ∷ 12 ∷ 4 ∷ 29 ∷ 143 ∷ 203 ∷ 180 ∷ 79 ∷ 22 ∷ 171 ∷ 170 ∷ 160 ∷ []

unfoldable pub entries⁻ : List ℕ
entries⁻ =
    184 ∷ 73 ∷ 12 ∷ 105 ∷ 246 ∷ 191 ∷ 128 ∷ 0 ∷ 91 ∷ 85 ∷ 143 ∷ 32 ∷ 245 ∷ 69 ∷ 164 ∷ 95
    ∷ 195 ∷ 68 ∷ 116 ∷ 101 ∷ 203 ∷ 241 ∷ 252 ∷ 47 ∷ 11 ∷ 30 ∷ 98 ∷ 132 ∷ 16 ∷ 247 ∷ 79 ∷ 127
    ∷ 150 ∷ 64 ∷ 152 ∷ 117 ∷ 232 ∷ 226 ∷ 182 ∷ 55 ∷ 230 ∷ 52 ∷ 239 ∷ 183 ∷ 144 ∷ 41 ∷ 21 ∷ 26
    ∷ 57 ∷ 225 ∷ 229 ∷ 155 ∷ 130 ∷ 206 ∷ 228 ∷ 80 ∷ 172 ∷ 121 ∷ 231 ∷ 123 ∷ 48 ∷ 38 ∷ 61 ∷ 142
    ∷ 219 ∷ 50 ∷ 19 ∷ 153 ∷ 66 ∷ 207 ∷ 200 ∷ 162 ∷ 70 ∷ 176 ∷ 138 ∷ 134 ∷ 233 ∷ 42 ∷ 7 ∷ 251
    ∷ 208 ∷ 94 ∷ 160 ∷ 217 ∷ 181 ∷ 2 ∷ 99 ∷ 74 ∷ 141 ∷ 168 ∷ 49 ∷ 175 ∷ 173 ∷ 14 ∷ 106 ∷ 29
    ∷ 17 ∷ 96 ∷ 238 ∷ 163 ∷ 169 ∷ 119 ∷ 135 ∷ 103 ∷ 193 ∷ 56 ∷ 72 ∷ 148 ∷ 202 ∷ 165 ∷ 204 ∷ 39
    ∷ 3 ∷ 158 ∷ 58 ∷ 145 ∷ 211 ∷ 9 ∷ 227 ∷ 37 ∷ 18 ∷ 133 ∷ 25 ∷ 190 ∷ 84 ∷ 122 ∷ 159 ∷ 97
    ∷ 15 ∷ 89 ∷ 90 ∷ 113 ∷ 6 ∷ 77 ∷ 185 ∷ 31 ∷ 137 ∷ 161 ∷ 201 ∷ 65 ∷ 44 ∷ 236 ∷ 5 ∷ 248
    ∷ 186 ∷ 224 ∷ 210 ∷ 212 ∷ 88 ∷ 60 ∷ 100 ∷ 222 ∷ 4 ∷ 104 ∷ 83 ∷ 33 ∷ 34 ∷ 20 ∷ 110 ∷ 81
    ∷ 255 ∷ 194 ∷ 115 ∷ 223 ∷ 27 ∷ 244 ∷ 189 ∷ 45 ∷ 59 ∷ 216 ∷ 254 ∷ 253 ∷ 46 ∷ 192 ∷ 215 ∷ 126
    ∷ 125 ∷ 87 ∷ 28 ∷ 154 ∷ 250 ∷ 82 ∷ 107 ∷ 118 ∷ 151 ∷ 40 ∷ 221 ∷ 180 ∷ 8 ∷ 76 ∷ 167 ∷ 136
    ∷ 93 ∷ 102 ∷ 243 ∷ 36 ∷ 139 ∷ 131 ∷ 24 ∷ 197 ∷ 129 ∷ 51 ∷ 108 ∷ 249 ∷ 114 ∷ 220 ∷ 10 ∷ 205
    ∷ 120 ∷ 146 ∷ 209 ∷ 35 ∷ 177 ∷ 124 ∷ 112 ∷ 67 ∷ 63 ∷ 235 ∷ 214 ∷ 234 ∷ 237 ∷ 242 ∷ 54 ∷ 111
    ∷ 178 ∷ 213 ∷ 198 ∷ 166 ∷ 218 ∷ 75 ∷ 149 ∷ 156 ∷ 23 ∷ 13 ∷ 240 ∷ 196 ∷ 78 ∷ 53 ∷ 170 ∷ 140
    ∷ 157 ∷ 86 ∷ 199 ∷ 179 ∷ 174 ∷ 22 ∷ 171 ∷ 43 ∷ 147 ∷ 62 ∷ 109 ∷ 92 ∷ 1 ∷ 71 ∷ 188 ∷ 187 ∷ []

-- ---- the tests: at each place the entry's power is the rule's
right : ℕ → ℕ → Bool
right k x = power_test (permute_bits k) 247 (bit_xor x 0x07)

right-s : (k x : ℕ) → T (right k x) → x ≡ s k
unfolding right s
right-s k x t = sym (xor_cancel_r x 0x07) ∙ ap (λ (n : ℕ). bit_xor n 0x07) (power_by (permute_bits k) 246 (bit_xor x 0x07) t)

pub entries_are : entries ≡ s_table
unfolding entries s_table right permute_bits powers
entries_are = tab_is 256 s 0 entries refl (λ k h. right-s k (get_or entries k 0) (table_at right entries tt k h))

right⁻ : ℕ → ℕ → Bool
right⁻ k x = both (eqb (permute_bits⁻ (permute_bits x)) x) (power_test (bit_xor k 0x07) 223 (permute_bits x))

right_s⁻ : (k x : ℕ) → T (right⁻ k x) → x ≡ s⁻ k
unfolding right⁻ s⁻
right_s⁻ k x t =
    let same = eqb (permute_bits⁻ (permute_bits x)) x in
    let test = power_test (bit_xor k 0x07) 223 (permute_bits x) in
    sym (eqb→eq (permute_bits⁻ (permute_bits x)) x (both_left same test t))
    ∙ ap permute_bits⁻ (power_by (bit_xor k 0x07) 222 (permute_bits x) (both_right same test t))

pub entries⁻_are : entries⁻ ≡ s_table⁻
unfolding entries⁻ s_table⁻ right⁻ permute_bits permute_bits⁻ powers
entries⁻_are = tab_is 256 s⁻ 0 entries⁻ refl (λ k h. right_s⁻ k (get_or entries⁻ k 0) (table_at right⁻ entries⁻ tt k h))

pub s_entry : (x : ℕ) → Byte x → get_or entries x 0 ≡ s x
unfolding s_table
s_entry x h = ap (λ (l : List ℕ). get_or l x 0) entries_are ∙ get_or-tab 256 s x 0 h

pub s⁻_entry : (x : ℕ) → Byte x → get_or entries⁻ x 0 ≡ s⁻ x
unfolding s_table⁻
s⁻_entry x h = ap (λ (l : List ℕ). get_or l x 0) entries⁻_are ∙ get_or-tab 256 s⁻ x 0 h
