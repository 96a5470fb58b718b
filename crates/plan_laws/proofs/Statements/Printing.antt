-- `print` of a container that the script may read.
use Rattle.std.proofs.Common.{◌≡◌, ℕ, zero, suc, ◌<◌, ◌≤◌, Bool, true, false, cond, ◌&&◌, ◌||◌, not, List, [], ◌∷◌, ◌++◌, length, Option, Some, None, refl, sym, ap, ◌∙◌, arith}
use Rattle.std.specs.Prelude.{option_map, nat_le, nat_lt, if◌then◌else◌}
use Rattle.frame_ast.specs.declared.script.Order.TheVariants.{Print as PrintOf}
use Rattle.frame_ast.specs.Jobs.{nobody, Book, greatest, happens_before, ancestors_in, ancestors}
use Rattle.frame_ast.specs.Conflicts.{conflicts, blockers, blocking}
use Rattle.frame_ast.specs.Contents.{Contents, Cells as Elements, Single, Items, Pairs, Entries, elements}
use Rattle.frame_ast.specs.Refusals.{Refused, refused, pending_on, pending, access}
use Rattle.frame_ast.specs.Lists.{first_some}
use Rattle.frame_ast.specs.Schedules.{need_of}
use Rattle.frame_ast.specs.States.{ScriptState, Value, is_alive, is_stale, container_at, contents_at, value_elements}
use Rattle.frame_ast.specs.Texts.{print_line}
use Rattle.frame_ast.specs.Effects.{effect}
use Rattle.native_array.proofs.Parts.{slice_is_part}
use Rattle.kernel_exec.specs.Binds.{start_of, end_of, own_of}
use Rattle.kernel_exec.specs.Layout.{Holds}
use Rattle.frame_core.specs.declared.plan.Act.TheVariants.{Print}
use Rattle.frame_core.specs.Names.{name_of}
use Rattle.frame_core.specs.Touches.{reads_in, act_touches, whole}
use Rattle.frame_core.specs.Operations.{op_cells, op_answer}
use Rattle.frame_core.specs.Output.{op_line, contents_line}
use Rattle.frame_core.specs.Ordered.{IsContainer}
use Rattle.frame_core.proofs.Small.{not_both}
use Rattle.frame_core.proofs.Extents.Touching.{it_has}
use Rattle.frame_ast.proofs.Ancestry.{greatest_none, least}
use Rattle.frame_ast.specs.Laws.{IsKnown}
use Rattle.job_base.specs.declared.Refusal.TheVariants.{Disposed, StaleView}
use Rattle.std.proofs.lemmas.Bool.{or_left}
use Rattle.frame_core.proofs.Small.{or_false_left}
use Rattle.plan_laws.specs.Binds.{bind_of, bind_for, bind_at, start_at}
use Rattle.plan_laws.specs.Drafts.{cells_of}
use Rattle.plan_laws.specs.Printing.{FitsContents, PrintsArePlanned}
use Rattle.plan_laws.proofs.Schedules.Fitting.{HasSlice, HasView, slice_has, view_has}
use Rattle.plan_laws.proofs.Statements.Changing.{changes_are_planned}
use Rattle.plan_laws.proofs.Owners.{word_has}
use Rattle.plan_laws.proofs.Statements.Making.{alive_is_live}
use Rattle.frame_core.proofs.Contents.{contents_are_read}

abbrev pub IsSeen : Value → Contents → Type 0
IsSeen Value.Dead c = ⊥
IsSeen (Value.Whole n) c = Unit {0}
IsSeen (Value.Slice n from len) c = HasSlice from len c
IsSeen (Value.View n number) c = HasView c
IsSeen (Value.Handle jobs) c = ⊥

pub seen_by : (v : Value) (c : Contents) → FitsContents v c → IsSeen v c
seen_by Value.Dead c f = absurd f
seen_by (Value.Whole n) c f = tt
seen_by (Value.Slice n from len) c f = slice_has from len c f.0 f.1
seen_by (Value.View n number) c f = view_has c f
seen_by (Value.Handle jobs) c f = absurd f

-- what is seen of a container through a name
abbrev pub seen : Value → Contents → Contents
seen Value.Dead c = c
seen (Value.Whole n) c = c
seen (Value.Slice n from len) c = Elements (value_elements (Value.Slice n from len) c)
seen (Value.View n number) c = Elements (elements c)
seen (Value.Handle jobs) c = c

pub seen_holds : (v : Value) (start : ℕ) (cells : ℕ → Rattle.std.specs.Prelude.ℤ) (c : Contents) → IsSeen v c → Holds cells (bind_of start c) c
    → Holds cells (bind_for v start c) (seen v c)
seen_holds Value.Dead start cells c u h = absurd u
seen_holds (Value.Whole n) start cells c u h = h
seen_holds (Value.Slice n from len) start cells (Elements xs) u h = (slice_is_part (record { start = start; len = length xs }) from len u).reads cells
    (Elements xs) h
seen_holds (Value.Slice n from len) start cells (Single z) u h = absurd u
seen_holds (Value.Slice n from len) start cells (Items cap xs) u h = absurd u
seen_holds (Value.Slice n from len) start cells (Pairs cap ps) u h = absurd u
seen_holds (Value.Slice n from len) start cells (Entries room es) u h = absurd u
seen_holds (Value.View n number) start cells (Elements xs) u h = absurd u
seen_holds (Value.View n number) start cells (Single z) u h = absurd u
seen_holds (Value.View n number) start cells (Items cap xs) u h = (h.0, (let e : xs ≡ h.0 = ap elements h.1 in ap Elements e), h.2)
seen_holds (Value.View n number) start cells (Pairs cap ps) u h = absurd u
seen_holds (Value.View n number) start cells (Entries room es) u h = absurd u
seen_holds (Value.Handle jobs) start cells c u h = absurd u

-- and the line is the same
seen_line : (name : List ℕ) (v : Value) (c : Contents) → IsSeen v c → contents_line name (seen v c) ≡ print_line name (value_elements v c) c
seen_line name Value.Dead c u = absurd u
seen_line name (Value.Whole n) c u = refl
seen_line name (Value.Slice n from len) (Elements xs) u = refl
seen_line name (Value.Slice n from len) (Single z) u = absurd u
seen_line name (Value.Slice n from len) (Items cap xs) u = absurd u
seen_line name (Value.Slice n from len) (Pairs cap ps) u = absurd u
seen_line name (Value.Slice n from len) (Entries room es) u = absurd u
seen_line name (Value.View n number) (Elements xs) u = absurd u
seen_line name (Value.View n number) (Single z) u = absurd u
seen_line name (Value.View n number) (Items cap xs) u = refl
seen_line name (Value.View n number) (Pairs cap ps) u = absurd u
seen_line name (Value.View n number) (Entries room es) u = absurd u
seen_line name (Value.Handle jobs) c u = absurd u

-- its words are words of the container, no own-index rule holds, and it is one of a container
pub record IsWithin (v : Value) (start : ℕ) (c : Contents) : Type 0 where
  pub from : start_of (bind_of start c) ≤ start_of (bind_for v start c)
  pub end : end_of (bind_for v start c) ≤ end_of (bind_of start c)
  pub own : own_of (bind_for v start c) ≡ 0
  pub is : IsContainer (bind_for v start c)

whole_within : (start : ℕ) (c : Contents) → IsWithin (Value.Whole 0) start c
whole_within start (Elements xs) = record { from = omega arith; end = omega arith; own = refl; is = tt }
whole_within start (Single z) = record { from = omega arith; end = omega arith; own = refl; is = tt }
whole_within start (Items cap xs) = record { from = omega arith; end = omega arith; own = refl; is = tt }
whole_within start (Pairs cap ps) = record { from = omega arith; end = omega arith; own = refl; is = tt }
whole_within start (Entries room es) = record { from = omega arith; end = omega arith; own = refl; is = tt }

pub seen_within : (v : Value) (start : ℕ) (c : Contents) → IsSeen v c → IsWithin v start c
seen_within Value.Dead start c u = absurd u
seen_within (Value.Whole n) start c u = let w = whole_within start c in record { from = w.from; end = w.end; own = w.own; is = w.is }
seen_within (Value.Slice n from len) start (Elements xs) u = record { from = omega arith; end = omega arith; own = refl; is = tt }
seen_within (Value.Slice n from len) start (Single z) u = absurd u
seen_within (Value.Slice n from len) start (Items cap xs) u = absurd u
seen_within (Value.Slice n from len) start (Pairs cap ps) u = absurd u
seen_within (Value.Slice n from len) start (Entries room es) u = absurd u
seen_within (Value.View n number) start (Elements xs) u = absurd u
seen_within (Value.View n number) start (Single z) u = absurd u
seen_within (Value.View n number) start (Items cap xs) u = record { from = omega arith; end = omega arith; own = refl; is = tt }
seen_within (Value.View n number) start (Pairs cap ps) u = absurd u
seen_within (Value.View n number) start (Entries room es) u = absurd u
seen_within (Value.Handle jobs) start c u = absurd u

-- WHAT AN ACCESS THAT ISN'T REFUSED KNOWS

pub record IsAllowed (s : ScriptState) (name : ℕ) (writes : Bool) : Type 0 where
  pub alive : is_alive s (s.values name) ≡ true
  pub none : (j : ℕ) → 0 < j → j ≤ s.book.count → blockers s.book (s.uses (container_at s name)) nobody writes j ≡ false

pub allowed : (s : ScriptState) (name : ℕ) (writes : Bool) → access s name (need_of s name writes) [] ≡ None → IsAllowed s name writes
unfolding first_some
allowed s name writes e =
    let b = by (is_alive s (s.values name)) (is_stale s (s.values name)) (pending s nobody (need_of s name writes ∷ [])) e in
    let zero_is : greatest (blocking s.book s.uses nobody (need_of s name writes ∷ [])) s.book.count ≡ 0 =
    none_is (greatest (blocking s.book s.uses nobody (need_of s name writes ∷ [])) s.book.count) b.1 in
    record {
      alive = b.0;
      none = λ j pos le. or_false_left (blockers s.book (s.uses (container_at s name)) nobody writes j) false
          (greatest_none (blocking s.book s.uses nobody (need_of s name writes ∷ [])) s.book.count zero_is j pos le);
    }
  where
    by : (a o : Bool) (p : Option Refused) → first_some (option_map (refused Disposed) (cond (not a) (Some name) None)
        ∷ option_map (refused StaleView) (cond o (Some name) None) ∷ p ∷ []) ≡ None → (a ≡ true) × (p ≡ None)
    by false o p e = cc
    by true true p e = cc
    by true false None e = (refl, refl)
    by true false (Some r) e = cc

    none_is : (n : ℕ) → pending_on s.uses (need_of s name writes ∷ []) n ≡ None → n ≡ 0
    none_is zero e = refl
    none_is (suc n) e = cc

-- what nobody leads to is nobody
no_ancestor : (deps : ℕ → ℕ → Bool) (n j : ℕ) → ancestors deps n nobody j ≡ true → ⊥
no_ancestor deps n j e = least deps (λ k. ⊥) (λ j k p e. p) n nobody (λ j h. not_both h refl) j e

pub happened : (b : Book) (j : ℕ) → happens_before b nobody j ≡ true → b.completed j ≡ true
happened b j e = by (b.completed j) (ancestors_in b nobody j) refl e
  where
    by : (c a : Bool) → ancestors_in b nobody j ≡ a → (c || a) ≡ true → c ≡ true
    by true a h e = refl
    by false true h e = absurd (no_ancestor b.deps b.count j h)
    by false false h e = absurd (not_both e refl)

pub conflict_completed : (s : ScriptState) (name : ℕ) (writes : Bool) → IsKnown s → IsAllowed s name writes → (j : ℕ)
    → conflicts (s.uses (container_at s name)) writes j ≡ true → (s.uses (container_at s name)).users j ≡ true → s.book.completed j ≡ true
conflict_completed s name writes known a j c u =
    let up = (known.uses (container_at s name)).users j u in
    happened s.book j (by (conflicts (s.uses (container_at s name)) writes j) (happens_before s.book nobody j) c (a.none j up.0 up.1))
  where
    by : (x y : Bool) → x ≡ true → (x && not y) ≡ false → y ≡ true
    by x true p q = refl
    by true false p q = absurd (not_both refl q)
    by false false p q = absurd (not_both p refl)

pub alive_at : (s : ScriptState) (v : Value) → is_alive s v ≡ true → s.alive (Rattle.frame_ast.specs.States.container_of v) ≡ true
alive_at s Value.Dead e = absurd (not_both e refl)
alive_at s (Value.Whole c) e = e
alive_at s (Value.Slice c start len) e = e
alive_at s (Value.View c number) e = e
alive_at s (Value.Handle jobs) e = absurd (not_both e refl)

pub or_none : (b : Bool) → (b || false) ≡ true → b ≡ true
or_none true e = refl
or_none false e = e

pub prints_are_planned : PrintsArePlanned
unfolding op_line op_answer op_cells
prints_are_planned x g s line name d e small known was accepted u shown named add =
    let below = u.below in
    let usable = seen_by (s.values name) (contents_at s name) u.fits in
    let at = bind_at x.starts s name in
    let c = container_at s name in
    let a = allowed s name false accepted in
    let alive = alive_at s (s.values name) a.alive in
    let w = seen_within (s.values name) (start_at x.starts s name) (contents_at s name) usable in
    let whole_holds = was.standing.contents c below alive in
    let h = seen_holds (s.values name) (start_at x.starts s name) (cells_of x.plan d) (contents_at s name) usable whole_holds in
    let in_plan = was.standing.within c (alive_is_live s c below alive) in
    changes_are_planned x small s (effect g line s (PrintOf name)) c (record { line = line; name = name; act = Print at }) d e was below alive
    (record { made = refl; alive = refl; uses = refl; range = refl; book = refl; others = λ k ne. refl; form = λ start. refl })
    (record {
      reads = λ v r. let b = it_has (whole at false) v (or_none (Rattle.frame_core.specs.Touches.has_word (whole at false) v) r) in let lo = b.0 in
          let hi = b.1 in let from = w.from in let end = w.end in word_has x.starts s c v (record { from = omega arith; below = omega arith });
      unread = λ j u. conflict_completed s name false known a j (or_left ((s.uses c).writers j) (false && (s.uses c).users j) u) ((known.uses c).writers j u);
      unwritten = λ v j r u. absurd (not_both r refl);
    })
    (record { name = shown; act = ((let end = w.end in omega arith, w.own), w.is) })
    (seen (s.values name) (contents_at s name), h)
    whole_holds
    (record {
      lines = ap (λ l. s.lines ++ l) (sym (ap (λ k. contents_line (name_of x.plan name) k)
          (contents_are_read at (cells_of x.plan d) (seen (s.values name) (contents_at s name)) h)
          ∙ seen_line (name_of x.plan name) (s.values name) (contents_at s name) usable
          ∙ ap (λ n. print_line n (value_elements (s.values name) (contents_at s name)) (contents_at s name)) named));
      refused = omega arith;
      traps = refl;
    })
    add
