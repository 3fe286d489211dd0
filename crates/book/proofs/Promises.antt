-- What a call promises, from its table: its answer, the book after it, and soundness of every list that it ends.
use Rattle.std.proofs.Common.{◌≡◌, Bool, true, false, cond, List, [], ◌∷◌, ◌++◌, is_some, Some, None, Option, sym, refl, ap, ◌∙◌, subst₂}
use Rattle.std.proofs.lemmas.Bool.{true≢false}
use Rattle.model.specs.declared.job.Job.{Job}
use Rattle.refusal.specs.Refusals.{Told, told, Line, first_of}
use Rattle.book.specs.Calls.{State, Call, Answer, lines, accepts, becomes, answer, after, run, new}
use Rattle.book.specs.Calls.Answer.{refused}
use Rattle.book.specs.Sound.{LawfulCall, AllLawful}
use Rattle.book.specs.Books.{SoundWith}
use Rattle.book.proofs.Steps.{answer_refused, answer_accepted, after_refused, after_accepted, run_push}
use Rattle.book.proofs.Soundness.{sound}

lawful_push : (h : List Call) (c : Call) → AllLawful h → LawfulCall c → AllLawful (h ++ (c ∷ []))
lawful_push [] c l k = (k, tt)
lawful_push (d ∷ h) c (l, ls) k = (l, lawful_push h c ls k)

-- every list that a call ends is sound, where the book after it is the one defined
pub sound_with : (s t : State) (c : Call) → LawfulCall c → t ≡ after s c → SoundWith s t c
unfolding run
sound_with s t c k e h l r = (
  e ∙ (ap (λ (x : State). after x c) r ∙ sym (run_push (new s.number) h c)),
  sound s.number (h ++ (c ∷ [])) (lawful_push h c l k),
)

-- all that a call promises
pub record Step (s t : State) (c : Call) (a : Answer) : Type 0 where
  pub answers : a ≡ answer s c
  pub becoming : t ≡ after s c
  pub sounds : SoundWith s t c

pub refused_step : (s : State) (c : Call) (t : Told) → LawfulCall c → first_of (lines s c) ≡ Some t → Step s s c (refused t)
refused_step s c t k e =
    let b = sym (after_refused s c t e) in
    record { answers = sym (answer_refused s c t e); becoming = b; sounds = sound_with s s c k b }

pub accepted_step : (s t : State) (c : Call) (a : Answer) → LawfulCall c → first_of (lines s c) ≡ None → t ≡ becomes s c → a ≡ accepts s c → Step s t c a
accepted_step s t c a k e b x =
    let d = b ∙ sym (after_accepted s c e) in
    record { answers = x ∙ sym (answer_accepted s c e); becoming = d; sounds = sound_with s t c k d }

-- no hold is open
pub not_held : (o : Option Job) → is_some o ≡ false → o ≡ None
not_held None e = refl
not_held (Some j) e = absurd (true≢false e)

-- a table that ends with a line, and goes on after it
pub hit_longer : (ls : List Line) (l : Line) (ms : List Line) (t : Told) → first_of (ls ++ (l ∷ [])) ≡ Some t → first_of (ls ++ (l ∷ ms)) ≡ Some t
hit_longer [] l ms t e = go l.holds e
  where
    u : Told
    u = told l.number l.detail

    go : (b : Bool) → cond b (Some u) None ≡ Some t → cond b (Some u) (first_of ms) ≡ Some t
    go true h = h
    go false h = absurd (true≢false (sym (ap (λ (o : Option Told). is_some o) h)))
hit_longer (k ∷ ls) l ms t e = go k.holds (hit_longer ls l ms t) e
  where
    u : Told
    u = told k.number k.detail

    go : (b : Bool) → (first_of (ls ++ (l ∷ [])) ≡ Some t → first_of (ls ++ (l ∷ ms)) ≡ Some t) → cond b (Some u) (first_of (ls ++ (l ∷ []))) ≡ Some t → cond b (Some u) (first_of (ls ++ (l ∷ ms))) ≡ Some t
    go true f h = h
    go false f h = f h

-- what a table gives, it gives at the front of a longer one
pub hit_front : (ls ms : List Line) (t : Told) → first_of ls ≡ Some t → first_of (ls ++ ms) ≡ Some t
hit_front [] ms t e = absurd (true≢false (sym (ap (λ (o : Option Told). is_some o) e)))
hit_front (k ∷ ls) ms t e = go k.holds (hit_front ls ms t) e
  where
    u : Told
    u = told k.number k.detail

    go : (b : Bool) → (first_of ls ≡ Some t → first_of (ls ++ ms) ≡ Some t) → cond b (Some u) (first_of ls) ≡ Some t → cond b (Some u) (first_of (ls ++ ms)) ≡ Some t
    go true f h = h
    go false f h = f h

-- where a table gives none, it goes on
pub pass_longer : (ls ms : List Line) → first_of ls ≡ None → first_of (ls ++ ms) ≡ first_of ms
pass_longer [] ms e = refl
pass_longer (k ∷ ls) ms e = go k.holds (pass_longer ls ms) e
  where
    u : Told
    u = told k.number k.detail

    go : (b : Bool) → (first_of ls ≡ None → first_of (ls ++ ms) ≡ first_of ms) → cond b (Some u) (first_of ls) ≡ None → cond b (Some u) (first_of (ls ++ ms)) ≡ first_of ms
    go true f h = absurd (true≢false (ap (λ (o : Option Told). is_some o) h))
    go false f h = f h

-- the same promise of an equal book and an equal answer
pub step_at : (s t u : State) (c : Call) (a b : Answer) → u ≡ t → b ≡ a → Step s t c a → Step s u c b
step_at s t u c a b e f p = subst₂ (λ (x : State) (y : Answer). Step s x c y) (sym e) (sym f) p
