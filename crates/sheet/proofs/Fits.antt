-- The text of a plan has room in 16,384 bytes: at most 1,024 segments, each of a step of two digits and ticks of ten.
use Rattle.std.proofs.Common.{◌≡◌, ℕ, ◌+◌, ◌-◌, ◌*◌, ◌<◌, ◌≤◌, Bool, true, false, cond, eqb, List, [], ◌∷◌, ◌++◌, length, refl, mul-le-mul_right, mul-add, arith, lit<}
use Rattle.std.proofs.lemmas.Fmt.{length-decimal-le}
use Rattle.std.proofs.lemmas.List.{length-append}
use Rattle.model.specs.Charges.{cost}
use Rattle.model.specs.Jobs.{cuts}
use Rattle.model.specs.Path.{path, piece_at, Piece}
use Rattle.model.specs.Plan.{segment, stretch, stretches, attach, joined, plan, ticks_of, energy}
use Rattle.model.specs.Speed.{want}
use Rattle.model.specs.Steps.{Lawful, unit}
use Rattle.model.specs.Sums.{sum_of}
use Rattle.model.specs.declared.job.Job.{Job}
use Rattle.model.specs.declared.point.Point.{Point}
use Rattle.model.specs.declared.segment.Segment.{Segment}
use Rattle.model.specs.declared.step.Step.{Step}
use Rattle.print.proofs.Lengths.{segment_length, energy_length}
use Rattle.print.specs.Texts.{segment_text, segments_text, energy_text, text_of}
use Rattle.queue.proofs.Bounds.{span_limit}
use Rattle.queue.proofs.Order.{ordered_from}
use Rattle.queue.specs.Queues.{standing}
use Rattle.survey.proofs.Rising.{cuts_length}
use Rattle.theory.proofs.Planned.{plan_serves}
use Rattle.theory.proofs.Slow.{slow_known}

-- joining makes no more segments
attach_length : (s : Segment) (ns : List Segment) → length (attach s ns) ≤ length ns + 1
unfolding attach
attach_length s [] = by (eqb s.ticks 0)
  where
    by : (b : Bool) → length (cond b [] (s ∷ [])) ≤ 0 + 1
    by true = omega arith
    by false = omega arith
attach_length s (n ∷ ns) = by (eqb s.ticks 0) (eqb s.step n.step)
  where
    by : (b c : Bool) → length (cond b (n ∷ ns) (cond c (segment n.step (s.ticks + n.ticks) ∷ ns) (s ∷ (n ∷ ns)))) ≤ length (n ∷ ns) + 1
    by true c = omega arith
    by false true = omega arith
    by false false = omega arith

joined_length : (xs : List Segment) → length (joined xs) ≤ length xs
unfolding joined
joined_length [] = omega arith
joined_length (x ∷ xs) = let a = attach_length x (joined xs) in let b = joined_length xs in omega arith

-- two runs between neighbouring cuts
stretches_length : (steps : List Step) (c : List Point) (s : ℕ) (ts : List ℕ) → length (stretches steps c (s ∷ ts)) ≡ 2 * length ts
unfolding stretches stretch
stretches_length steps c s [] = refl
stretches_length steps c s (t ∷ ts) = let h = stretches_length steps c t ts in omega arith

stretches_most : (steps : List Step) (c : List Point) (ts : List ℕ) → length (stretches steps c ts) ≤ 2 * (length ts - 1)
unfolding stretches
stretches_most steps c [] = omega arith
stretches_most steps c (t ∷ ts) = let h = stretches_length steps c t ts in omega arith

pub plan_length : (steps : List Step) (jobs : List Job) → length jobs ≤ 256 → length (plan steps jobs) ≤ 1024
unfolding plan
plan_length steps jobs l =
    let a = joined_length (stretches steps (path jobs) (cuts jobs)) in
    let b = stretches_most steps (path jobs) (cuts jobs) in
    let c = cuts_length jobs in
    omega arith

-- every segment is at a step below a bound
abbrev Below : ℕ → List Segment → Type 0
Below n [] = Unit {0}
Below n (s ∷ ss) = (s.step < n) × Below n ss

below_append : (n : ℕ) (xs ys : List Segment) → Below n xs → Below n ys → Below n (xs ++ ys)
below_append n [] ys a b = b
below_append n (x ∷ xs) ys a b = (a.0, below_append n xs ys a.1 b)

below_attach : (n : ℕ) (s : Segment) (ns : List Segment) → s.step < n → Below n ns → Below n (attach s ns)
unfolding attach segment
below_attach n s [] l b = by (eqb s.ticks 0)
  where
    by : (c : Bool) → Below n (cond c [] (s ∷ []))
    by true = tt
    by false = (l, tt)
below_attach n s (m ∷ ms) l b = by (eqb s.ticks 0) (eqb s.step m.step)
  where
    by : (c d : Bool) → Below n (cond c (m ∷ ms) (cond d (segment m.step (s.ticks + m.ticks) ∷ ms) (s ∷ (m ∷ ms))))
    by true d = b
    by false true = (b.0, b.1)
    by false false = (l, b)

below_joined : (n : ℕ) (xs : List Segment) → Below n xs → Below n (joined xs)
unfolding joined
below_joined n [] b = tt
below_joined n (x ∷ xs) b = below_attach n x (joined xs) b.0 (below_joined n xs b.1)

below_stretch : (steps : List Step) → Lawful steps → (l : Piece) (s t : ℕ) → Below (length steps) (stretch steps l s t)
unfolding stretch segment
below_stretch steps w l s t = let k = slow_known steps w l in (omega arith, (k, tt))

below_stretches : (steps : List Step) → Lawful steps → (c : List Point) (ts : List ℕ) → Below (length steps) (stretches steps c ts)
unfolding stretches
below_stretches steps w c [] = tt
below_stretches steps w c (s ∷ []) = tt
below_stretches steps w c (s ∷ (t ∷ ts)) =
    below_append (length steps) (stretch steps (piece_at c s) s t) (stretches steps c (t ∷ ts)) (below_stretch steps w (piece_at c s) s t) (below_stretches steps w c (t ∷ ts))

below_plan : (steps : List Step) (jobs : List Job) → Lawful steps → Below (length steps) (plan steps jobs)
unfolding plan
below_plan steps jobs w = below_joined (length steps) (stretches steps (path jobs) (cuts jobs)) (below_stretches steps w (path jobs) (cuts jobs))

-- a segment takes at most 14 bytes
segments_room : (n : ℕ) (xs : List Segment) → n ≤ 16 → Below n xs → ticks_of xs ≤ 1008000000 → length (segments_text xs) ≤ 14 * length xs
unfolding segments_text ticks_of sum_of
segments_room n [] m b t = omega arith
segments_room n (x ∷ xs) m b t =
    let s = length-decimal-le 2 x.step (lit< tt) (let q = b.0 in omega arith) (let q = b.0 in omega arith) in
    let k = length-decimal-le 10 x.ticks (lit< tt) (omega arith) (omega arith) in
    let h = segments_room n xs m b.1 (omega arith) in
    let a = length-append (segment_text x) (segments_text xs) in
    let l = segment_length x in
    omega arith

-- no power is above 1,000,000, so the energy has at most 16 digits
energy_room : (steps : List Step) (xs : List Segment) → Lawful steps → Below (length steps) xs → energy steps xs ≤ 1000000 * ticks_of xs
unfolding energy ticks_of sum_of
energy_room steps [] w b = omega arith
energy_room steps (x ∷ xs) w b =
    let h = energy_room steps xs w b.1 in
    let p = mul-le-mul_right x.ticks (w.dear x.step b.0) in
    let m = mul-add 1000000 x.ticks (sum_of (λ s. s.ticks) xs) in
    omega arith

pub text_fits : (steps : List Step) (jobs : List Job) → Lawful steps → standing jobs ≡ true → length jobs ≤ 256 → want steps jobs ≡ false → length (text_of (plan steps jobs) (cost steps jobs)) ≤ 14364
unfolding cost
text_fits steps jobs w st few able =
    let serves = plan_serves steps jobs w (ordered_from jobs st) able in
    let f = serves.fills in
    let s = mul-le-mul_right unit (span_limit jobs st) in
    let n = plan_length steps jobs few in
    let b = below_plan steps jobs w in
    let r = segments_room (length steps) (plan steps jobs) w.most b (omega (arith, f, s)) in
    let e = energy_room steps (plan steps jobs) w b in
    let d = length-decimal-le 20 (cost steps jobs) (lit< tt) (omega (arith, f, s)) (omega (arith, f, s)) in
    let l = energy_length (cost steps jobs) in
    let a = length-append (segments_text (plan steps jobs)) (energy_text (cost steps jobs)) in
    omega arith
