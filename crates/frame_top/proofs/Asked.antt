-- What the words of a command ask for, and what the command has.
use Rattle.std.proofs.Common.{◌≡◌, refl, sym, ap, ◌∙◌, subst, ℕ, suc, ◌<◌, ◌≤◌, Bool, true, false, cond, List, [], ◌∷◌, length, Option, None, Some, option_map, string_bytes, replicate, Result, Ok, Err, IfOk, arith}
use Rattle.std.specs.Prelude.{nat_le, ◌||◌, find, IfSome}
use Rattle.std.specs.List.{list_any}
use Rattle.std.specs.Option.{option_map_or}
use Rattle.std.proofs.lemmas.Bool.{leb-true, and_parts}
use Rattle.std.proofs.lemmas.List.{length-replicate}
use Rattle.job_base.specs.declared.limits.TheConstants.{MOST_WORKERS, MOST_SEED, MOST_GENERATED_JOBS}
use Rattle.command_words.specs.declared.command.Command.{Command}
use Rattle.command_words.specs.declared.command.Command.TheVariants.{Run, Gen}
use Rattle.command_words.specs.declared.place.Place.{Place}
use Rattle.command_words.specs.declared.place.Place.TheVariants.{Workers, Number, Jobs, Depth, Script, Table}
use Rattle.command_words.specs.Words.{Text, Item, is_of_command, has, text_at, same_place, number, fits, is_number_in, all_fit}
use Rattle.script_gen.specs.Scripts.{script_text}
use Rattle.frame_top.specs.Words.{items_of, script_name, table_name, workers_in, made_by, made_text, table_by}
use Rattle.frame_top.specs.Inputs.{Told, CanBe, CanBeTable, ReadsSource, source_told, made_or_told, told_by}
use Rattle.frame_top.specs.Asking.{IsAsked}

-- WHAT STANDS AT A PLACE

none_there : (p : Place) (items : List Item) → has p items ≡ false → text_at p items ≡ None
none_there p [] e = refl
none_there p (i ∷ rest) e = by (same_place i.0 p) e (none_there p rest)
  where
    by : (b : Bool) → (b || list_any (λ (j : Item). same_place j.0 p) rest) ≡ false → (has p rest ≡ false → text_at p rest ≡ None)
        → option_map (λ (j : Item). j.1) (cond b (Some i) (find (λ (j : Item). same_place j.0 p) rest)) ≡ None
    by true e more = absurd cc
    by false e more = more e

-- what stands at a place fits there
fit_there : (p : Place) (items : List Item) (t : Text) → all_fit items ≡ true → text_at p items ≡ Some t
    → (q : Place) × (same_place q p ≡ true) × (fits q t ≡ true)
fit_there p [] t fit e = absurd cc
fit_there p (i ∷ rest) t fit e =
    let parts = and_parts (fits i.0 i.1) (all_fit rest) fit in
    by (same_place i.0 p) refl parts.0 e (fit_there p rest t parts.1)
  where
    by : (b : Bool) → same_place i.0 p ≡ b → fits i.0 i.1 ≡ true → option_map (λ (j : Item). j.1)
        (cond b (Some i) (find (λ (j : Item). same_place j.0 p) rest)) ≡ Some t
        → (text_at p rest ≡ Some t → (q : Place) × (same_place q p ≡ true) × (fits q t ≡ true)) → (q : Place) × (same_place q p ≡ true) × (fits q t ≡ true)
    by true same here e more = let text : i.1 ≡ t = cc in (i.0, same, subst (λ x. fits i.0 x ≡ true) text here)
    by false same here e more = more e

in_bounds : (least most : ℕ) (t : Text) → is_number_in least most t ≡ true → (least ≤ number t) × (number t ≤ most)
in_bounds least most t e =
    let parts = and_parts _ _ e in
    let bounds = and_parts (nat_le least (number t)) (nat_le (number t) most) parts.1 in
    (leb-true least (number t) bounds.0, leb-true (number t) most bounds.1)

workers_there : (q : Place) (t : Text) → same_place q Workers ≡ true → fits q t ≡ true → (1 ≤ number t) × (number t ≤ MOST_WORKERS)
unfolding fits
workers_there Workers t s e = in_bounds 1 MOST_WORKERS t e
workers_there Number t s e = absurd cc
workers_there Jobs t s e = absurd cc
workers_there Depth t s e = absurd cc
workers_there Script t s e = absurd cc
workers_there Table t s e = absurd cc

seed_there : (q : Place) (t : Text) → same_place q Number ≡ true → fits q t ≡ true → number t ≤ MOST_SEED
unfolding fits
seed_there Number t s e = (in_bounds 0 MOST_SEED t e).1
seed_there Workers t s e = absurd cc
seed_there Jobs t s e = absurd cc
seed_there Depth t s e = absurd cc
seed_there Script t s e = absurd cc
seed_there Table t s e = absurd cc

jobs_there : (q : Place) (t : Text) → same_place q Jobs ≡ true → fits q t ≡ true → (1 ≤ number t) × (number t ≤ MOST_GENERATED_JOBS)
unfolding fits
jobs_there Jobs t s e = in_bounds 1 MOST_GENERATED_JOBS t e
jobs_there Workers t s e = absurd cc
jobs_there Number t s e = absurd cc
jobs_there Depth t s e = absurd cc
jobs_there Script t s e = absurd cc
jobs_there Table t s e = absurd cc

-- ACCEPTED WORDS

all_fit_in : (words : List Text) → is_of_command words ≡ true → all_fit (items_of words) ≡ true
all_fit_in words e = (and_parts _ _ (and_parts _ _ e).1).0

workers_by : (items : List Item) (o : Option Text) → text_at Workers items ≡ o → all_fit items ≡ true
    → (1 ≤ option_map_or number o 4) × (option_map_or number o 4 ≤ MOST_WORKERS)
workers_by items None e fit = (omega arith, omega arith)
workers_by items (Some t) e fit = let f = fit_there Workers items t fit e in workers_there f.0 t f.1 f.2

pub workers_bounded : (words : List Text) → is_of_command words ≡ true → (1 ≤ workers_in words) × (workers_in words ≤ MOST_WORKERS)
workers_bounded words e = workers_by (items_of words) (text_at Workers (items_of words)) refl (all_fit_in words e)

-- the workers of a command
abbrev pub workers_in_command : Command → ℕ
workers_in_command (Run workers script table depth) = workers
workers_in_command (Gen workers seed jobs depth) = workers

pub workers_fit : (words : List Text) (command : Command) → IsAsked words command
    → (1 ≤ workers_in_command command) × (workers_in_command command ≤ MOST_WORKERS)
workers_fit words (Run workers script table depth) asked = subst (λ n. (1 ≤ n) × (n ≤ MOST_WORKERS)) (sym asked.spelled.1)
    (workers_bounded words asked.of_command)
workers_fit words (Gen workers seed jobs depth) asked = subst (λ n. (1 ≤ n) × (n ≤ MOST_WORKERS)) (sym asked.spelled.1) (workers_bounded words asked.of_command)

-- the number at a place, where one is
record IsNumberAt (p : Place) (words : List Text) (n : ℕ) : Type 0 where
  pub text : Text
  pub there : text_at p (items_of words) ≡ Some text
  pub is : number text ≡ n

number_at : (p : Place) (words : List Text) (n : ℕ) (o : Option Text) → text_at p (items_of words) ≡ o → option_map number o ≡ Some n → IsNumberAt p words n
number_at p words n None e h = absurd cc
number_at p words n (Some t) e h = record { text = t; there = e; is = (let same : number t ≡ n = cc in same) }

pub seed_bounded : (words : List Text) (workers seed jobs : ℕ) (depth : Bool) → IsAsked words (Gen workers seed jobs depth) → seed ≤ MOST_SEED
seed_bounded words workers seed jobs depth asked =
    let at = number_at Number words seed _ refl asked.spelled.0 in
    let f = fit_there Number (items_of words) at.text (all_fit_in words asked.of_command) at.there in
    subst (λ n. n ≤ MOST_SEED) at.is (seed_there f.0 at.text f.1 f.2)

pub jobs_bounded : (words : List Text) (workers seed jobs : ℕ) (depth : Bool) → IsAsked words (Gen workers seed jobs depth)
    → (1 ≤ jobs) × (jobs ≤ MOST_GENERATED_JOBS)
jobs_bounded words workers seed jobs depth asked =
    let at = number_at Jobs words jobs _ refl asked.spelled.2 in
    let f = fit_there Jobs (items_of words) at.text (all_fit_in words asked.of_command) at.there in
    subst (λ n. (1 ≤ n) × (n ≤ MOST_GENERATED_JOBS)) at.is (jobs_there f.0 at.text f.1 f.2)

-- A SCRIPT THAT IS MADE

made_text_is : (words : List Text) (workers seed jobs : ℕ) (depth : Bool) → IsAsked words (Gen workers seed jobs depth)
    → made_text words ≡ Some (script_text seed jobs)
made_text_is words workers seed jobs depth asked =
    let seeds = number_at Number words seed _ refl asked.spelled.0 in
    let most = number_at Jobs words jobs _ refl asked.spelled.2 in
    (λ i. made_by (seeds.there i) (most.there i)) ∙ (λ i. Some (script_text (seeds.is i) (most.is i)))

pub made_is : (told : Told) (words : List Text) (workers seed jobs : ℕ) (depth : Bool) → IsAsked words (Gen workers seed jobs depth)
    → source_told told words ≡ Some (script_text seed jobs)
made_is told words workers seed jobs depth asked =
    ap (λ o. made_or_told o (told_by told (script_name words))) (made_text_is words workers seed jobs depth asked)

-- A SCRIPT THAT IS READ

no_made : (jobs : Option Text) → made_by None jobs ≡ None
no_made None = refl
no_made (Some t) = refl

none_made : (words : List Text) (workers : ℕ) (script : _) (table : _) (depth : Bool) → IsAsked words (Run workers script table depth) → made_text words ≡ None
none_made words workers script table depth asked =
    ap (λ o. made_by o (text_at Jobs (items_of words))) (none_there Number (items_of words) asked.spelled.0) ∙ no_made (text_at Jobs (items_of words))

pub file_is : (told : Told) (words : List Text) (workers : ℕ) (script : _) (table : _) (depth : Bool) → IsAsked words (Run workers script table depth)
    → source_told told words ≡ told (string_bytes script)
file_is told words workers script table depth asked =
    ap (λ o. made_or_told o (told_by told (script_name words))) (none_made words workers script table depth asked) ∙ ap (told_by told) asked.spelled.2

-- A TABLE

pub no_table_is : (words : List Text) (workers seed jobs : ℕ) (depth : Bool) → IsAsked words (Gen workers seed jobs depth) → table_name words ≡ None
no_table_is words workers seed jobs depth asked =
    ap (λ o. table_by o (text_at Table (items_of words))) (made_text_is words workers seed jobs depth asked)

pub table_is : (words : List Text) (workers : ℕ) (script : _) (table : _) (depth : Bool) → IsAsked words (Run workers script table depth)
    → table_name words ≡ option_map string_bytes table
table_is words workers script table depth asked =
    ap (λ o. table_by o (text_at Table (items_of words))) (none_made words workers script table depth asked) ∙ asked.spelled.3

-- READING

pub file_read : (told : Told) (words : List Text) (workers : ℕ) (script : _) (table : _) (depth : Bool) (name bytes : Text)
    → IsAsked words (Run workers script table depth) → name ≡ string_bytes script → IfSome (told name) (λ b. bytes ≡ b) → ReadsSource words told bytes
file_read told words workers script table depth name bytes asked is read = record {
  of_command = asked.of_command;
  source_is = subst (λ o. CanBe o bytes) (sym (file_is told words workers script table depth asked)) (subst (λ n. IfSome (told n) (λ b. bytes ≡ b)) is read);
}

pub long_some : (o : Option Text) (most : ℕ) → IfSome o (λ b. most < length b) → (b : Text) × CanBe o b × (most < length b)
long_some None most h = (replicate (suc most) 0, tt, (let e : length (replicate {A = ℕ} most 0) ≡ most = length-replicate most 0 in omega (arith, e)))
long_some (Some b) most h = (b, refl, h)

pub file_long : (told : Told) (words : List Text) (workers : ℕ) (script : _) (table : _) (depth : Bool) (name : Text) (most : ℕ)
    → IsAsked words (Run workers script table depth) → name ≡ string_bytes script → IfSome (told name) (λ b. most < length b)
    → (b : Text) × ReadsSource words told b × (most < length b)
file_long told words workers script table depth name most asked is long =
    let l = long_some (told name) most long in (
      l.0,
      record {
        of_command = asked.of_command;
        source_is = subst (λ o. CanBe o l.0) (sym (file_is told words workers script table depth asked))
            (subst (λ n. CanBe (told n) l.0) is l.1);
      },
      l.2,
    )

pub table_by_name : (told : Told) (o : Option Text) (name b : Text) → o ≡ Some name → CanBe (told name) b → CanBeTable told o (Some b)
table_by_name told None name b e h = absurd cc
table_by_name told (Some n) name b e h = let same : n ≡ name = cc in subst (λ m. CanBe (told m) b) (sym same) h

pub read_ok : {T E : Type 0} (r : Result T E) (P Q : T → Type 0) → ((v : T) → P v → Q v) → IfOk r P → IfOk r Q
read_ok (Ok v) P Q f h = f v h
read_ok (Err e) P Q f h = tt

pub same_fault : {T E : Type 0} (e f : E) → ◌≡◌ {A = Result T E} (Err e) (Err f) → e ≡ f
same_fault e f h = cc
