-- The round keys of every key are 256 bytes.
use mathlib.Core.Path.{sym, subst}
use mathlib.Core.List.{List, []}
use Prim.Native.Nat.{ℕ, zero, suc, ◌+◌, ◌-◌, ◌*◌, ◌/◌, ◌%◌, ◌<◌}
use native.Mathlib.Omega.{arith}
use lib.ListN.{get_or}
use Rattle.laws.specs.Bytes.{Byte, Bytes}
use Rattle.laws.proofs.Places.{get_or-tab, each_tab}
use Rattle.laws.proofs.Words.{byte_at}
use Rattle.laws.proofs.XorLists.{xor_l_bytes}
use Rattle.e2_steps.specs.Steps.{S, P}
use Rattle.e2_keys.specs.Keys.{Y, Li, L, G, generation, q, subkey, round_keys}
use Rattle.e2_undo.proofs.StayBytes.{S_bytes, P_bytes}

mixed : (x : List ℕ) → Bytes 8 (P (S x))
mixed x = P_bytes (S x) (S_bytes x)

Y_bytes : (x : List (List ℕ)) (i : ℕ) → i < 4 → Bytes 8 (get_or (Y x) i [])
unfolding Y
Y_bytes x i h = subst (Bytes 8) (sym (get_or-tab 4 (λ j. P (S (get_or x j []))) i [] h)) (mixed (get_or x i []))

Li_bytes : (x : List (List ℕ)) (u : List ℕ) (i : ℕ) → i < 4 → Bytes 8 (Li (Y x) u i)
unfolding Li
Li_bytes x u zero h = xor_l_bytes 8 (get_or (Y x) 0 []) (P (S u)) (Y_bytes x 0 h) (mixed u)
Li_bytes x u (suc i) h = xor_l_bytes 8 (P (S (Li (Y x) u i))) (get_or (Y x) (suc i) []) (mixed (Li (Y x) u i)) (Y_bytes x (suc i) h)

L_bytes : (x : List (List ℕ)) (u : List ℕ) (i : ℕ) → i < 4 → Bytes 8 (get_or (L (Y x) u) i [])
unfolding L
L_bytes x u i h = subst (Bytes 8) (sym (get_or-tab 4 (Li (Y x) u) i [] h)) (Li_bytes x u i h)

q_bytes : (key : List ℕ) (j : ℕ) → Bytes 8 (q key j)
unfolding q generation G
q_bytes key j = L_bytes (generation key (j / 4)).Y (get_or (generation key (j / 4)).L 3 []) (j % 4) (omega arith)

subkey_bytes : (key : List ℕ) (i : ℕ) → Bytes 16 (subkey key i)
unfolding subkey
subkey_bytes key i =
    each_tab Byte 0 16 (λ n. get_or (q key (n * 2 + (i - 1) % 2)) ((i - 1) / 2) 0)
    (λ n h. byte_at 8 (q key (n * 2 + (i - 1) % 2)) ((i - 1) / 2) (q_bytes key (n * 2 + (i - 1) % 2)))

pub round_keys_bytes : (key : List ℕ) → Bytes 256 (round_keys key)
unfolding round_keys
round_keys_bytes key =
    each_tab Byte 0 256 (λ n. get_or (subkey key (suc (n / 16))) (n % 16) 0)
    (λ n h. byte_at 16 (subkey key (suc (n / 16))) (n % 16) (subkey_bytes key (suc (n / 16))))
