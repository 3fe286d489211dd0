-- The settling of a plan, segment by segment: its beginning, the next segment, and its end.
use Rattle.std.proofs.Common.{◌≡◌, ℕ, zero, suc, ◌+◌, ◌<◌, ◌≤◌, List, [], ◌∷◌, length, get_or, drop, sym, refl, ap, ◌∙◌, inl, inr, arith}
use Rattle.std.proofs.lemmas.List.{at_drop_more, at_drop_all, length_push, get_or_push, get_or_append_left, ext_get_or}
use Rattle.std.proofs.lemmas.Bool.{cases_lt}
use Rattle.model.specs.Sums.{sum_of}
use Rattle.model.specs.Plan.{ticks_of}
use Rattle.model.specs.Charges.{charge_from, charge}
use Rattle.model.specs.declared.job.Job.{Job}
use Rattle.model.specs.declared.segment.Segment.{Segment}
use Rattle.model.specs.declared.step.Step.{Step}
use Rattle.theory.proofs.Counting.{charge_end}
use Rattle.charges.specs.declared.cursor.Cursor.{Cursor}
use Rattle.charges.specs.Owing.{owing, settled}

-- what stands for a segment past the last
abbrev pub no_segment : Segment
no_segment = record { step = 0; ticks = 0 }

-- no segment has more ticks than the plan
ticks_one : (ss : List Segment) (k : ℕ) → k < length ss → (get_or ss k no_segment).ticks ≤ ticks_of ss
unfolding ticks_of sum_of
ticks_one [] k l = absurd (omega arith)
ticks_one (s ∷ ss) zero l = omega arith
ticks_one (s ∷ ss) (suc k) l = let r = ticks_one ss k (omega arith) in omega arith

pub ticks_small : (ss : List Segment) (k m : ℕ) → k < length ss → ticks_of ss ≤ m → (get_or ss k no_segment).ticks ≤ m
ticks_small ss k m l h = let r = ticks_one ss k l in omega arith

module _ (steps : List Step) (jobs : List Job) where
  -- for one segment no more is owed than for it and others
  owing_first : (rows : List ℕ) (at : Cursor) (s : Segment) (ss : List Segment) (a : ℕ) → owing steps jobs rows at (s ∷ []) a ≤ owing steps jobs rows at (s ∷ ss) a
  unfolding owing charge_from
  owing_first rows at s ss a = omega arith

  -- where the cursor stands at the first grain, a row owes its account's charge
  owing_start : (rows : List ℕ) (ss : List Segment) (a : ℕ) → owing steps jobs rows (record { job = 0; grain = 0 }) ss a ≡ get_or rows a 0 + charge steps jobs ss a
  unfolding owing charge
  owing_start rows ss a = refl

  -- nothing is owed for no segment
  owing_end : (rows : List ℕ) (at : Cursor) (a : ℕ) → owing steps jobs rows at [] a ≡ get_or rows a 0
  unfolding owing
  owing_end rows at a = let e = charge_end steps a (drop at.job jobs) at.grain in omega arith

  owing_over : (rows : List ℕ) (at : Cursor) (ss : List Segment) (k a : ℕ) → length ss ≤ k → owing steps jobs rows at (drop k ss) a ≡ get_or rows a 0
  owing_over rows at ss k a l = at_drop_all (λ (ts : List Segment). owing steps jobs rows at ts a) ss k l ∙ owing_end rows at a

  owing_next : (rows : List ℕ) (at : Cursor) (ss : List Segment) (k a : ℕ) → k < length ss
      → owing steps jobs rows at (drop k ss) a ≡ owing steps jobs rows at (get_or ss k no_segment ∷ drop (k + 1) ss) a
  owing_next rows at ss k a l = at_drop_more (λ (ts : List Segment). owing steps jobs rows at ts a) ss k no_segment l

  -- all segments settled: each row has risen by its account's charge
  pub all_paid : (first rows : List ℕ) (at : Cursor) (ss : List Segment) (k a : ℕ) → length ss ≤ k
      → owing steps jobs rows at (drop k ss) a ≡ owing steps jobs first (record { job = 0; grain = 0 }) ss a
      → get_or rows a 0 ≡ get_or first a 0 + charge steps jobs ss a
  all_paid first rows at ss k a l i = sym (owing_over rows at ss k a l) ∙ (i ∙ owing_start first ss a)

  -- a segment at hand owes no more than was owed at first
  pub room_next : (first rows : List ℕ) (at : Cursor) (ss : List Segment) (k a m : ℕ) → k < length ss
      → owing steps jobs rows at (drop k ss) a ≡ owing steps jobs first (record { job = 0; grain = 0 }) ss a
      → get_or first a 0 + charge steps jobs ss a ≤ m → owing steps jobs rows at (get_or ss k no_segment ∷ []) a ≤ m
  room_next first rows at ss k a m l i h =
      let f = owing_first rows at (get_or ss k no_segment) (drop (k + 1) ss) a in
      let n = owing_next rows at ss k a l in
      let s = owing_start first ss a in
      omega arith

  -- the rows as a list
  settled_length : (ss : List Segment) (rows : List ℕ) (n : ℕ) → length (settled steps jobs ss rows n) ≡ n
  unfolding settled
  settled_length ss rows zero = refl
  settled_length ss rows (suc n) =
      let a = length_push (settled steps jobs ss rows n) (get_or rows n 0 + charge steps jobs ss n) in
      let b = settled_length ss rows n in
      omega arith

  settled_at : (ss : List Segment) (rows : List ℕ) (n a : ℕ) → a < n → get_or (settled steps jobs ss rows n) a 0 ≡ get_or rows a 0 + charge steps jobs ss a
  unfolding settled
  settled_at ss rows zero a l = absurd (omega arith)
  settled_at ss rows (suc n) a l =
      let y : ℕ = get_or rows n 0 + charge steps jobs ss n in
      let b = settled_length ss rows n in
      elim (cases_lt a n) [
        | inl k ↦ get_or_append_left (settled steps jobs ss rows n) (y ∷ []) 0 a (omega arith) ∙ settled_at ss rows n a k
        | inr k ↦
            let e : n ≡ a = omega arith in
            get_or_push (settled steps jobs ss rows n) y 0 a (b ∙ e) ∙ ap (λ (x : ℕ). get_or rows x 0 + charge steps jobs ss x) e
      ]

  pub settled_is : (ss : List Segment) (rows after : List ℕ) (n : ℕ) → length after ≡ n
      → ((a : ℕ) → get_or after a 0 ≡ get_or rows a 0 + charge steps jobs ss a) → after ≡ settled steps jobs ss rows n
  settled_is ss rows after n e h =
      ext_get_or 0 after (settled steps jobs ss rows n) (e ∙ sym (settled_length ss rows n))
      (λ a l. h a ∙ sym (settled_at ss rows n a (omega arith)))
