-- Halfway through a number: what k bytes with their top bit have given, and what the bytes from there on add to it.
use Rattle.std.proofs.Common.{◌≡◌, ℕ, suc, ◌+◌, ◌-◌, ◌*◌, ◌/◌, ◌%◌, ◌^◌, ◌<◌, ◌≤◌, Bool, cond, ◌&&◌, eqb, ltb, List, [], ◌∷◌, ◌++◌, sym, refl, ap, ◌∙◌, mul-le-mul_right, mul_assoc, mul_comm, add-mul, pow-suc, arith, lit<}
use native.Mathlib.Nat.{pow-le-pow_right}
use Rattle.std.proofs.lemmas.Bool.Decides.{nat_tests}
use Rattle.record.specs.Got.{Got, got, refused, refuse}
use Rattle.record.specs.Numbers.{groups, number_bytes, read_groups, read_number, carried}
use Rattle.record.proofs.Groups.{groups_one, groups_more}

-- a number read on from a later byte put on top of what was read before: in shortest form it is not 0
abbrev pub placed : Bool → ℕ → ℕ → Got ℕ → Got ℕ
placed later n scale (got m rest) = cond (later && eqb m 0) (refuse 26) (got (n + m * scale) rest)
placed later n scale (refused t) = refused t

pub record Halfway (bytes rest : List ℕ) (k n scale : ℕ) : Type 0 where
  pub scaled : scale ≡ 128 ^ k
  pub small : n < scale
  pub reads : placed (ltb 0 k) n scale (read_groups (5 - k) rest) ≡ read_number bytes
  pub exact : k < 5 → (m : ℕ) (tail : List ℕ) → (0 < k → 0 < m) → rest ≡ groups (4 - k) m ++ tail → bytes ≡ number_bytes (n + m * scale) ++ tail

-- what bytes read as from the first of them on
read_at : (k b : ℕ) (next : List ℕ) → k < 5
    → read_groups (5 - k) (b ∷ next) ≡ cond (ltb b 128) (got b next) (carried b (read_groups (5 - (k + 1)) next))
unfolding read_groups
read_at k b next l =
    let e : 5 - k ≡ suc (5 - (k + 1)) = omega arith in
    ap (λ (f : ℕ). read_groups f (b ∷ next)) e

ends_at : (k b : ℕ) (next : List ℕ) → k < 5 → b < 128 → read_groups (5 - k) (b ∷ next) ≡ got b next
ends_at k b next l h = let e = read_at k b next l in grind (arith, nat_tests)

goes_on : (k b : ℕ) (next : List ℕ) → k < 5 → 128 ≤ b → read_groups (5 - k) (b ∷ next) ≡ carried b (read_groups (5 - (k + 1)) next)
goes_on k b next l h = let e = read_at k b next l in grind (arith, nat_tests)

sums : (n d m scale : ℕ) → n + (d + 128 * m) * scale ≡ n + d * scale + m * (scale * 128)
sums n d m scale =
    let a = add-mul d (128 * m) scale in
    let b = mul_assoc 128 m scale in
    let c = mul_comm 128 (m * scale) in
    let e = mul_assoc m scale 128 in
    omega arith

placed_more : (k b n scale : ℕ) (g : Got ℕ) → placed (ltb 0 k) n scale (carried b g) ≡ placed (ltb 0 (k + 1)) (n + (b - 128) * scale) (scale * 128) g
placed_more k b n scale (refused t) = refl
placed_more k b n scale (got m rest) = let e = sums n (b - 128) m scale in grind (arith, nat_tests)

-- a byte with its top bit before further groups
grouped : (k b m : ℕ) → k < 4 → 128 ≤ b → b < 256 → 0 < m → groups (4 - k) (b - 128 + 128 * m) ≡ b ∷ groups (4 - (k + 1)) m
grouped k b m l h h' p =
    let r : 128 + (b - 128 + 128 * m) % 128 ≡ b = omega arith in
    let q : (b - 128 + 128 * m) / 128 ≡ m = omega arith in
    groups_more k (b - 128 + 128 * m) l (omega arith)
    ∙ ap (λ (x : ℕ). x ∷ groups (4 - (k + 1)) ((b - 128 + 128 * m) / 128)) r
    ∙ ap (λ (x : ℕ). b ∷ groups (4 - (k + 1)) x) q

small_on : (n b scale : ℕ) → n < scale → b < 256 → n + (b - 128) * scale < scale * 128
small_on n b scale l h =
    let d : b - 128 ≤ 127 = omega arith in
    let a = mul-le-mul_right scale d in
    let c = mul_comm scale 128 in
    let e = add-mul 127 1 scale in
    omega arith

-- one more byte with its top bit
pub on_by : {bytes rest next : List ℕ} {k n scale b : ℕ} → Halfway bytes rest k n scale → rest ≡ b ∷ next → k < 5 → 128 ≤ b → b < 256
    → Halfway bytes next (k + 1) (n + (b - 128) * scale) (scale * 128)
on_by {bytes} {rest} {next} {k} {n} {scale} {b} w e l h h' = record {
  scaled = let s : k + 1 ≡ suc k = omega arith in ap (λ (x : ℕ). x * 128) w.scaled ∙ sym (pow-suc 128 k) ∙ ap (λ (x : ℕ). 128 ^ x) (sym s);
  small = small_on n b scale w.small h';
  reads =
      sym (placed_more k b n scale (read_groups (5 - (k + 1)) next))
      ∙ ap (λ (g : Got ℕ). placed (ltb 0 k) n scale g)
      (sym (ap (λ (xs : List ℕ). read_groups (5 - k) xs) e ∙ goes_on k b next l h))
      ∙ w.reads;
  exact = λ j m tail p f.
      w.exact l (b - 128 + 128 * m) tail (λ _. let q : 0 < m = p (omega arith) in omega arith)
      (e
      ∙ ap (λ (xs : List ℕ). b ∷ xs) f
      ∙ ap (λ (xs : List ℕ). xs ++ tail) (sym (grouped k b m (omega arith) h h' (p (omega arith)))))
      ∙ ap (λ (x : ℕ). number_bytes x ++ tail) (sums n (b - 128) m scale);
}

-- the bytes end
pub ended : {bytes rest : List ℕ} {k n scale : ℕ} → Halfway bytes rest k n scale → rest ≡ [] → k < 5 → refuse 25 ≡ read_number bytes
unfolding read_groups
ended {bytes} {rest} {k} {n} {scale} w e l =
    let f : 5 - k ≡ suc (5 - (k + 1)) = omega arith in
    ap (λ (g : Got ℕ). placed (ltb 0 k) n scale g) (sym (ap (λ (xs : List ℕ). read_groups (5 - k) xs) e ∙ ap (λ (x : ℕ). read_groups x []) f))
    ∙ w.reads

-- five bytes have their top bit
pub overlong : {bytes rest : List ℕ} {k n scale : ℕ} → Halfway bytes rest k n scale → 5 ≤ k → refuse 26 ≡ read_number bytes
unfolding read_groups
overlong {bytes} {rest} {k} {n} {scale} w l =
    let e : 5 - k ≡ 0 = omega arith in
    ap (λ (g : Got ℕ). placed (ltb 0 k) n scale g) (sym (ap (λ (f : ℕ). read_groups f rest) e)) ∙ w.reads

-- a byte without its top bit ends the number
last_at : {bytes rest next : List ℕ} {k n scale b : ℕ} → Halfway bytes rest k n scale → rest ≡ b ∷ next → k < 5 → b < 128 → placed (ltb 0 k) n scale (got b next) ≡ read_number bytes
last_at {bytes} {rest} {next} {k} {n} {scale} {b} w e l h =
    ap (λ (g : Got ℕ). placed (ltb 0 k) n scale g)
    (sym (ap (λ (xs : List ℕ). read_groups (5 - k) xs) e ∙ ends_at k b next l h))
    ∙ w.reads

-- a last byte of 0 after others
pub padded : {bytes rest next : List ℕ} {k n scale b : ℕ} → Halfway bytes rest k n scale → rest ≡ b ∷ next → k < 5 → 0 < k → b ≡ 0 → refuse 26 ≡ read_number bytes
padded {bytes} {rest} {next} {k} {n} {scale} {b} w e l p z =
    let h = last_at w e l (omega arith) in grind (arith, nat_tests)

-- what is added and how it is scaled stays within bounds
pub within : {bytes rest : List ℕ} {k n scale : ℕ} → Halfway bytes rest k n scale → k < 5 → (b : ℕ) → b < 256 → (scale ≤ 268435456) × (n < 268435456) × (b * scale ≤ b * 268435456)
within {bytes} {rest} {k} {n} {scale} w l b h =
    let s = w.scaled in
    let t = w.small in
    let f : k ≤ 4 = omega arith in
    let q : 128 ^ k ≤ 128 ^ 4 = pow-le-pow_right (lit< tt) f in
    let u : scale ≤ 268435456 = omega arith in
    let v = mul-le-mul_right b u in
    (u, omega arith, omega (arith, mul_comm b scale))

-- a last byte
pub closed : {bytes rest next : List ℕ} {k n scale b : ℕ} → Halfway bytes rest k n scale → rest ≡ b ∷ next → k < 5 → b < 128 → (0 < k → 0 < b)
    → (got (n + b * scale) next ≡ read_number bytes)
    × (n + b * scale < 2 ^ 35)
    × (bytes ≡ number_bytes (n + b * scale) ++ next)
closed {bytes} {rest} {next} {k} {n} {scale} {b} w e l h p = (
  (let f = last_at w e l h in grind (arith, nat_tests)),
  (let u = within w l b (omega arith) in omega arith),
  w.exact l b next p (e ∙ ap (λ (xs : List ℕ). xs ++ next) (sym (groups_one (4 - k) b h))),
)
