-- The items of a list, with commas between them, put one by one.
use Rattle.std.proofs.Common.{◌≡◌, ℕ, zero, suc, ◌+◌, ◌<◌, ◌≤◌, ℤ, pos, List, [], ◌∷◌, ◌++◌, length, get_or, drop, Bool, Option, Result, refl, sym, ap, subst, ◌∙◌, arith, append_assoc}
use Rattle.std.specs.Prelude.{codes}
use Rattle.frame_ast.specs.Texts.{more_text, listed}
use Rattle.job_base.specs.Cells.{cell_list}
use Rattle.job_base.proofs.Windows.{length-cell_list, get_or-cell_list}
use Rattle.frame_print.specs.Gathering.{Joins, Gathers, comma_before}
use Rattle.frame_print.proofs.Gathering.{Going, Stops, going_on, going_stops, gathers_as, gathers_after}

-- the text of the items from a place on
abbrev pub text_from : {A : Type 0} → (A → List ℕ) → ℕ → List A → List ℕ
text_from text zero xs = listed text xs
text_from text (suc place) xs = more_text text xs

-- it begins with the item there
text_next : {A : Type 0} (text : A → List ℕ) (place : ℕ) (x : A) (xs : List A) (close : List ℕ)
    → text_from text place (x ∷ xs) ++ close ≡ comma_before place ++ (text x ++ (text_from text (suc place) xs ++ close))
text_next text zero x xs close = append_assoc (text x) (more_text text xs) close
text_next text (suc place) x xs close = ap (λ l. codes ", " ++ l) (append_assoc (text x) (more_text text xs) close)

-- behind the last item nothing is left of it
text_end : {A : Type 0} (text : A → List ℕ) (place : ℕ) (close : List ℕ) → text_from text place [] ++ close ≡ close
text_end text zero close = refl
text_end text (suc place) close = refl

-- what a loop over items keeps beside the text
pub record Same (faults faults' : ℕ) (cells cells' : ℕ → ℤ) (readable readable' writable writable' : ℕ → Bool) : Type 0 where
  pub count : faults' ≡ faults
  pub values : cells' ≡ cells
  pub may_load : readable' ≡ readable
  pub may_store : writable' ≡ writable

module _ {A : Type 0} (text : A → List ℕ) (place : ℕ) (left : List A) (x : A) (more : List A) (is : left ≡ x ∷ more) (close : List ℕ)
    (old : Option (List ℕ)) (w : List ℕ) (now : Option (List ℕ)) (w' whole : List ℕ)
    (p : Going old w now w' whole (text_from text place left ++ close)) where
  begun : Going old w now w' whole (comma_before place ++ (text x ++ (text_from text (place + 1) more ++ close)))
  begun =
      let next : suc place ≡ place + 1 = omega arith in
      subst (Going old w now w' whole) (ap (λ l. text_from text place l ++ close) is ∙ text_next text place x more close
      ∙ ap (λ n. comma_before place ++ (text x ++ (text_from text n more ++ close))) next) p

  pub stops_comma : (new : Option (List ℕ)) → Stops now new (w' ++ comma_before place) → Stops old new (w ++ whole)
  stops_comma new q = going_stops old w now w' new whole _ _ begun q

  module _ (mid : Option (List ℕ)) (w'' : List ℕ) (q : Joins now w' mid w'' (comma_before place)) where
    pub stops_item : (new : Option (List ℕ)) → Stops mid new (w'' ++ text x) → Stops old new (w ++ whole)
    stops_item new s = going_stops old w mid w'' new whole _ _ (going_on old w now w' mid w'' whole _ _ begun q) s

    pub going_item : (new : Option (List ℕ)) (w''' : List ℕ) → Joins mid w'' new w''' (text x)
        → Going old w new w''' whole (text_from text (place + 1) more ++ close)
    going_item new w''' s = going_on old w mid w'' new w''' whole _ _ (going_on old w now w' mid w'' whole _ _ begun q) s

  begun_next : Going old w now w' whole ((comma_before place ++ text x) ++ (text_from text (place + 1) more ++ close))
  begun_next = subst (Going old w now w' whole) (sym (append_assoc (comma_before place) (text x) (text_from text (place + 1) more ++ close))) begun

  -- the same where the item and what comes before it are put at once
  pub stops_next : (new : Option (List ℕ)) → Stops now new (w' ++ (comma_before place ++ text x)) → Stops old new (w ++ whole)
  stops_next new q = going_stops old w now w' new whole _ _ begun_next q

  pub going_next : (new : Option (List ℕ)) (w'' : List ℕ) → Joins now w' new w'' (comma_before place ++ text x)
      → Going old w new w'' whole (text_from text (place + 1) more ++ close)
  going_next new w'' q = going_on old w now w' new w'' whole _ _ begun_next q

-- ---- the end

-- all items were put, and the bracket behind them was tried
pub going_closes : {A T E : Type 0} (text : A → List ℕ) (place : ℕ) (left : List A) (close : List ℕ) (old : Option (List ℕ)) (w : List ℕ)
    (now : Option (List ℕ)) (w' whole : List ℕ) (new : Option (List ℕ)) (w'' : List ℕ) (r : Result T E)
    → left ≡ [] → Going old w now w' whole (text_from text place left ++ close) → Gathers now w' new w'' r close → Gathers old w new w'' r whole
going_closes text place left close old w now w' whole new w'' r none p q =
    let last : text_from text place left ++ close ≡ close = ap (λ l. text_from text place l ++ close) none ∙ text_end text place close in
    gathers_as old w new w'' r (p.done ++ close) whole (sym (p.cut ∙ ap (λ l. p.done ++ l) last)) (gathers_after old w now w' new w'' r p.done close p.put q)

-- ---- what is left of a list

pub drop_next : {A : Type 0} (xs : List A) (i : ℕ) (d x : A) → i < length xs → get_or xs i d ≡ x → drop i xs ≡ x ∷ drop (i + 1) xs
drop_next [] i d x h e = absurd (omega arith)
drop_next (y ∷ xs) zero d x h e = ap (λ z. z ∷ xs) e
drop_next (y ∷ xs) (suc i) d x h e =
    let next : suc i + 1 ≡ suc (i + 1) = omega arith in
    rw next (drop_next xs i d x (omega arith) e)

pub drop_all : {A : Type 0} (xs : List A) (i : ℕ) → length xs ≤ i → drop i xs ≡ []
drop_all [] zero h = refl
drop_all [] (suc i) h = refl
drop_all (x ∷ xs) zero h = absurd (omega arith)
drop_all (x ∷ xs) (suc i) h = drop_all xs i (omega arith)

-- ---- cells

-- the cell at a place comes next
pub cell_next : (cells : ℕ → ℤ) (start len i : ℕ) → i < len → drop i (cell_list cells start len) ≡ cells (start + i) ∷ drop (i + 1) (cell_list cells start len)
cell_next cells start len i h =
    drop_next (cell_list cells start len) i (pos 0) (cells (start + i)) (omega (arith, length-cell_list cells start len))
    (get_or-cell_list cells start len i (pos 0) h)

pub cells_end : (cells : ℕ → ℤ) (start len i : ℕ) → len ≤ i → drop i (cell_list cells start len) ≡ []
cells_end cells start len i h = drop_all (cell_list cells start len) i (omega (arith, length-cell_list cells start len))
