-- The cuts as a strictly rising list, place by place: the time after one at some place is the least time above it.
-- So a merge that goes from each time to the least one above it goes along the cuts.
use Rattle.std.proofs.Common.{◌≡◌, ℕ, zero, suc, ◌+◌, ◌*◌, ◌<◌, ◌≤◌, cond, eqb, ltb, List, [], ◌∷◌, length, get_or, sym, refl, subst, inl, inr, arith}
use Rattle.std.proofs.lemmas.Bool.{cond_both}
use Rattle.model.specs.Jobs.{job_at, insert, cuts}
use Rattle.model.specs.declared.job.Job.{Job}
use Rattle.theory.proofs.Cuts.{Among, Rises, rises_above, insert_only, cuts_rooted}

-- what stands at a place is one of the list
pub place_among : (ts : List ℕ) (n : ℕ) → n < length ts → Among (get_or ts n 0) ts
place_among [] n l = absurd (omega arith)
place_among (t ∷ ts) zero l = inl refl
place_among (t ∷ ts) (suc n) l = inr (place_among ts n (omega arith))

-- the least time above the one at a place stands at the next place
next_place :
    (t : ℕ) (ts : List ℕ) → Rises t ts → (n : ℕ) → n < length (t ∷ ts) → (u : ℕ) → Among u (t ∷ ts) → get_or (t ∷ ts) n 0 < u
    → ((x : ℕ) → Among x (t ∷ ts) → get_or (t ∷ ts) n 0 < x → u ≤ x) → (suc n < length (t ∷ ts)) × (get_or (t ∷ ts) (suc n) 0 ≡ u)
next_place t ts r zero l u (inl e) k least = absurd (omega arith)
next_place t [] r zero l u (inr m) k least = absurd m
next_place t (s ∷ ss) r zero l u (inr (inl e)) k least = (omega arith, sym e)
next_place t (s ∷ ss) r zero l u (inr (inr m)) k least =
    let a = rises_above s ss r.1 u m in
    let b = least s (inr (inl refl)) r.0 in
    absurd (omega arith)
next_place t [] r (suc n) l u m k least = absurd (omega arith)
next_place t (s ∷ ss) r (suc n) l u (inl e) k least =
    let a = rises_above t (s ∷ ss) r (get_or (s ∷ ss) n 0) (place_among (s ∷ ss) n (omega arith)) in
    absurd (omega arith)
next_place t (s ∷ ss) r (suc n) l u (inr m) k least =
    let (a, e) = next_place s ss r.1 n (omega arith) u m k (λ x mx lx. least x (inr mx) lx) in
    (omega arith, e)

-- a time that none is above stands at the last place
last_place :
    (t : ℕ) (ts : List ℕ) → Rises t ts → (n : ℕ) → n < length (t ∷ ts) → ((x : ℕ) → Among x (t ∷ ts) → x ≤ get_or (t ∷ ts) n 0)
    → suc n ≡ length (t ∷ ts)
last_place t [] r n l most = omega arith
last_place t (s ∷ ss) r zero l most = let a = most s (inr (inl refl)) in let b = r.0 in absurd (omega arith)
last_place t (s ∷ ss) r (suc n) l most = let e = last_place s ss r.1 n (omega arith) (λ x m. most x (inr m)) in omega arith

-- the same of the cuts
pub next_cut :
    (jobs : List Job) (n : ℕ) → n < length (cuts jobs) → (u : ℕ) → Among u (cuts jobs) → get_or (cuts jobs) n 0 < u
    → ((x : ℕ) → Among x (cuts jobs) → get_or (cuts jobs) n 0 < x → u ≤ x) → (suc n < length (cuts jobs)) × (get_or (cuts jobs) (suc n) 0 ≡ u)
next_cut jobs =
    let (rest, e, r) = cuts_rooted jobs in
    subst
    (λ (ts : List ℕ).
    (n : ℕ) → n < length ts → (u : ℕ) → Among u ts → get_or ts n 0 < u
    → ((x : ℕ) → Among x ts → get_or ts n 0 < x → u ≤ x) → (suc n < length ts) × (get_or ts (suc n) 0 ≡ u))
    (sym e) (next_place 0 rest r)

pub last_cut : (jobs : List Job) (n : ℕ) → n < length (cuts jobs) → ((x : ℕ) → Among x (cuts jobs) → x ≤ get_or (cuts jobs) n 0) → suc n ≡ length (cuts jobs)
last_cut jobs =
    let (rest, e, r) = cuts_rooted jobs in
    subst
    (λ (ts : List ℕ). (n : ℕ) → n < length ts → ((x : ℕ) → Among x ts → x ≤ get_or ts n 0) → suc n ≡ length ts)
    (sym e) (last_place 0 rest r)

-- the first cut is 0
pub first_cut : (jobs : List Job) → (0 < length (cuts jobs)) × (get_or (cuts jobs) 0 0 ≡ 0)
first_cut jobs =
    let (rest, e, r) = cuts_rooted jobs in
    subst (λ (ts : List ℕ). (0 < length ts) × (get_or ts 0 0 ≡ 0)) (sym e) (omega arith, refl)

-- what holds of 0, of every arrival and of every deadline holds of every cut
pub cuts_all :
    (P : ℕ → Type 0) (jobs : List Job) → P 0 → ((i : ℕ) → i < length jobs → P (job_at jobs i).arrival)
    → ((i : ℕ) → i < length jobs → P (job_at jobs i).deadline) → (x : ℕ) → Among x (cuts jobs) → P x
unfolding cuts job_at
cuts_all P [] z a d x (inl e) = subst P (sym e) z
cuts_all P [] z a d x (inr m) = absurd m
cuts_all P (j ∷ js) z a d x m =
    elim (insert_only j.arrival (insert j.deadline (cuts js)) x m) [
      | inl e ↦ subst P (sym e) (a 0 (omega arith))
      | inr n ↦ elim (insert_only j.deadline (cuts js) x n) [
        | inl e ↦ subst P (sym e) (d 0 (omega arith))
        | inr k ↦ cuts_all P js z (λ i l. a (suc i) (omega arith)) (λ i l. d (suc i) (omega arith)) x k
      ]
    ]

-- there is one cut for each arrival and each deadline at most, and the one at 0
insert_length : (t : ℕ) (ts : List ℕ) → length (insert t ts) ≤ suc (length ts)
unfolding insert
insert_length t [] = omega arith
insert_length t (s ∷ ss) =
    let a = insert_length t ss in
    cond_both (ltb t s) (t ∷ (s ∷ ss)) (cond (eqb t s) (s ∷ ss) (s ∷ insert t ss)) (λ w. length w ≤ suc (suc (length ss))) (λ e. omega arith)
    (λ e. cond_both (eqb t s) (s ∷ ss) (s ∷ insert t ss) (λ w. length w ≤ suc (suc (length ss))) (λ f. omega arith) (λ f. omega arith))

pub cuts_length : (jobs : List Job) → length (cuts jobs) ≤ 2 * length jobs + 1
unfolding cuts
cuts_length [] = omega arith
cuts_length (j ∷ js) =
    let a = insert_length j.arrival (insert j.deadline (cuts js)) in
    let b = insert_length j.deadline (cuts js) in
    let c = cuts_length js in
    omega arith
