-- Texts that are said one after another.
use Rattle.std.proofs.Common.{◌≡◌, ℕ, List, [], ◌++◌, Option, Some, None, Bool, true, false, refl, sym, ap, subst, ◌∙◌, arith, append_assoc, append-nil}
use Rattle.std.specs.Io.KnownBytes.{Appends, Keeps}
use Rattle.std.proofs.lemmas.Grind.{common_steps}
use Rattle.job_base.specs.Faults.{Rose}
use Rattle.frame_print.specs.Gathering.{Joins}
use Rattle.frame_print.proofs.Gathering.{joins_none, joins_more, Stops, stops_after, stops_before}
use Rattle.frame_core.proofs.Small.{not_both}
use Rattle.plan_run.specs.Says.{Said, Says}

-- KNOWN BYTES THAT STAY

keeps_same : (a : Option (List ℕ)) → Keeps a a
keeps_same None = tt
keeps_same (Some x) = refl

keeps_on : (a b c : Option (List ℕ)) → Keeps a b → Keeps b c → Keeps a c
keeps_on None b c p q = tt
keeps_on (Some x) None c p q = absurd p
keeps_on (Some x) (Some y) None p q = absurd q
keeps_on (Some x) (Some y) (Some z) p q = q ∙ p

stops_kept : (old mid new : Option (List ℕ)) (text : List ℕ) → Stops old mid text → Keeps mid new → Stops old new text
stops_kept None mid new text p q = (p.0, tt)
stops_kept (Some x) None new text p q = absurd p.1
stops_kept (Some x) (Some y) None text p q = absurd q
stops_kept (Some x) (Some y) (Some z) text p q = (p.0, q ∙ p.1)

-- COUNTS THAT RISE

pub rose_on : (m n o : ℕ) → Rose m n → o ≡ n → Rose m o
rose_on m n o p e = rw e p

pub rose_at : (m n o : ℕ) → n ≡ m → Rose n o → Rose m o
rose_at m n o e p = rw (← e) p

-- NOTHING, AND TWO TEXTS

-- nothing is said
pub says_none : (s : Said) → Says s s []
says_none s = record {
  whole = λ h i. (joins_none s.taken s.waits, refl);
  part = λ h i. absurd (not_both i h);
  nothing = λ h. (h, keeps_same s.taken, refl);
}

-- WHAT A CALL SAID

-- after a fault it says nothing
pub says_nothing : (s : Said) (text : List ℕ) → s.failed ≡ true → Says s s text
says_nothing s text is = record {
  whole = λ h i. absurd (not_both is h);
  part = λ h i. absurd (not_both is h);
  nothing = λ h. (h, keeps_same s.taken, refl);
}

-- it put all of the text
pub says_put : (s t : Said) (text : List ℕ) → s.failed ≡ false → t.failed ≡ false → Joins s.taken s.waits t.taken t.waits text → t.faults ≡ s.faults
    → Says s t text
says_put s t text is same p e = record {
  whole = λ h i. (p, e);
  part = λ h i. absurd (not_both i same);
  nothing = λ h. absurd (not_both h is);
}

-- a write failed
pub says_part : (s t : Said) (text : List ℕ) → s.failed ≡ false → t.failed ≡ true → Stops s.taken t.taken (s.waits ++ text) → Rose s.faults t.faults
    → Says s t text
says_part s t text is fails p rose = record {
  whole = λ h i. absurd (not_both fails i);
  part = λ h i. (p, rose);
  nothing = λ h. absurd (not_both h is);
}

module _ (s t u : Said) (x y : List ℕ) (p : Says s t x) (q : Says t u y) where
  whole_after : (f : Bool) → t.failed ≡ f → s.failed ≡ false → u.failed ≡ false → Joins s.taken s.waits u.taken u.waits (x ++ y) × (u.faults ≡ s.faults)
  whole_after true e i j = absurd (not_both (q.nothing e).0 j)
  whole_after false e i j =
      let a = p.whole i e in
      let b = q.whole e j in
      (joins_more s.taken s.waits t.taken t.waits u.taken u.waits x y a.0 b.0, b.1 ∙ a.1)

  part_after : (f : Bool) → t.failed ≡ f → s.failed ≡ false → u.failed ≡ true → Stops s.taken u.taken (s.waits ++ (x ++ y)) × Rose s.faults u.faults
  part_after true e i j =
      let a = p.part i e in
      let b = q.nothing e in
      (stops_before s.taken s.waits u.taken x y (stops_kept s.taken t.taken u.taken (s.waits ++ x) a.0 b.1), rose_on s.faults t.faults u.faults a.1 b.2)
  part_after false e i j =
      let a = p.whole i e in
      let b = q.part e j in
      (stops_after s.taken s.waits t.taken t.waits u.taken x y a.0 b.0, rose_at s.faults t.faults u.faults a.1 b.1)

  -- two texts, one after the other, are their joined text
  pub says_after : Says s u (x ++ y)
  says_after = record {
    whole = λ i j. whole_after t.failed refl i j;
    part = λ i j. part_after t.failed refl i j;
    nothing = λ i. let a = p.nothing i in let b = q.nothing a.0 in (b.0, keeps_on s.taken t.taken u.taken a.1 b.1, b.2 ∙ a.2);
  }

pub says_as : (s t : Said) (x y : List ℕ) → x ≡ y → Says s t x → Says s t y
says_as s t x y e p = subst (Says s t) e p

-- A TEXT STEP BY STEP

-- the text before `rest` was said
pub record InText (s t : Said) (text rest : List ℕ) : Type 0 where
  pub done : List ℕ
  pub is : text ≡ done ++ rest
  pub says : Says s t done

pub text_start : (s : Said) (text : List ℕ) → InText s s text text
text_start s text = record { done = []; is = refl; says = says_none s }

pub text_next : (s t u : Said) (text x rest : List ℕ) → InText s t text (x ++ rest) → Says t u x → InText s u text rest
text_next s t u text x rest p q = record {
  done = p.done ++ x;
  is = p.is ∙ sym (append_assoc p.done x rest);
  says = says_after s t u p.done x p.says q;
}

pub text_end : (s t : Said) (text : List ℕ) → InText s t text [] → Says s t text
text_end s t text p = let e = p.is in let same : text ≡ p.done = grind (arith, common_steps) in rw same p.says

-- WHAT WAITS IS WRITTEN

pub joins_flushed : (old : Option (List ℕ)) (waited : List ℕ) (new : Option (List ℕ)) (waits : List ℕ) → Appends old new waited → waits ≡ []
    → Joins old waited new waits []
joins_flushed old waited new waits p none = record { bytes = waited; taken = p; whole = ap (λ l. waited ++ l) (sym none) }

pub stops_flushed : (old new : Option (List ℕ)) (waited : List ℕ) → Stops old new waited → Stops old new (waited ++ [])
stops_flushed old new waited p = subst (Stops old new) (sym (append-nil waited)) p
