-- What a change of words through a name does to the contents of its container.
use Rattle.std.proofs.Common.{◌≡◌, ℕ, ◌<◌, ◌^◌, ℤ, pos, Bool, true, false, if◌then◌else◌, List, [], ◌∷◌, length, Option, Some, None, Result, Ok, Err, refl, sym, ap, subst, ◌∙◌}
use Rattle.std.specs.Prelude.{is_some, unwrap_or}
use Rattle.std.proofs.lemmas.Bool.{false≢true}
use Rattle.job_base.specs.declared.Trap.{Trap}
use Rattle.job_base.specs.declared.Trap.TheVariants.{MissingKey}
use Rattle.job_base.specs.Cells.{cell_list}
use Rattle.job_base.proofs.Windows.{length-cell_list}
use Rattle.frame_ast.specs.declared.name_kind.NameKind.TheVariants as kind
use Rattle.frame_ast.specs.declared.name_kind.TheConstants.{HAS_ELEMENTS, REMOVABLE, CLEARABLE}
use Rattle.frame_ast.specs.Accepted.{kind_in, set_kinds, add_kinds}
use Rattle.frame_ast.specs.Arguments.{put_in, pairs_of}
use Rattle.frame_ast.specs.Contents.{Contents, Cells as Elements, Single, Items, Pairs, Entries, then_value, set_at, has_key, without_key, cleared, elements}
use Rattle.frame_ast.specs.Orders.{set_in, add_in, put_pair_in, remove_in}
use Rattle.frame_ast.specs.States.{Value, value_elements, with_value_elements}
use Rattle.native_stream.specs.Layout.{HoldsEntries}
use Rattle.kernel_exec.specs.declared.binds.Bind.{Bind}
use Rattle.kernel_exec.specs.declared.binds.Bind.TheVariants.{Array, Stream}
use Rattle.kernel_exec.specs.Binds.{end_of}
use Rattle.kernel_exec.specs.Layout.{Holds}
use Rattle.kernel_exec.specs.Words.{set_value_word, put_word, has_word, remove_key_word, clear_word}
use Rattle.kernel_exec.proofs.Changing.{Becomes, Goes, set_value_goes, put_goes, add_goes, add_pair_goes, remove_at_goes, remove_key_goes, clear_goes}
use Rattle.merge_laws.specs.Graph.{Cells}
use Rattle.frame_core.specs.Operations.{set_cells, add_cells, remove_cells}
use Rattle.frame_core.specs.Ordered.{MayBeSet, IsListOrMap, IsMap, MayBeCleared}
use Rattle.plan_laws.specs.Accessing.{kind_seen}
use Rattle.plan_laws.specs.Binds.{bind_of, bind_for}
use Rattle.plan_laws.proofs.Schedules.Leaving.{slice_left}
use Rattle.plan_laws.proofs.Statements.Printing.{IsSeen, seen_holds}

-- the words of a container stand for other contents of the same form
pub record Leaves (start : ℕ) (c : Contents) (new : Cells) (d : Contents) : Type 0 where
  pub holds : Holds new (bind_of start d) d
  pub form : (n : ℕ) → bind_of n d ≡ bind_of n c

-- what its words stand for afterwards has the same form
left_as : (start : ℕ) (c d : Contents) (new : Cells) → Holds new (bind_of start c) d → Leaves start c new d
left_as start (Elements xs) d new h =
    let len : length (cell_list new start (length xs)) ≡ length xs = length-cell_list new start (length xs) in
    subst (Leaves start (Elements xs) new) (sym h) (record {
      holds = ap (λ n. Elements (cell_list new start n)) (sym len);
      form = λ n. ap (λ k. Array (record { start = n; len = k }) 0) len;
    })
left_as start (Single z) d new h = subst (Leaves start (Single z) new) (sym h) (record { holds = refl; form = λ n. refl })
left_as start (Items cap xs) d new h = subst (Leaves start (Items cap xs) new) (sym h.1) (record { holds = (h.0, refl, h.2); form = λ n. refl })
left_as start (Pairs cap ps) d new h = subst (Leaves start (Pairs cap ps) new) (sym h.1) (record { holds = (h.0, refl, h.2); form = λ n. refl })
left_as start (Entries room es) d new h = subst (Leaves start (Entries room es) new) (sym h.1) (record {
  holds = (h.0, refl, subst (λ n. HoldsEntries (record { start = start; count = n; room = room }) new h.0) (sym h.2.number) h.2);
  form = λ n. ap (λ k. Stream (record { start = n; count = k; room = room }) false) h.2.number;
})

-- both went on, or both met the same trap
abbrev pub LeavesAs : ℕ → Contents → Result Cells Trap → Result Contents Trap → Type 0
LeavesAs start c (Ok new) (Ok d) = Leaves start c new d
LeavesAs start c (Ok new) (Err u) = ⊥
LeavesAs start c (Err t) (Ok d) = ⊥
LeavesAs start c (Err t) (Err u) = t ≡ u

then_ok : {A : Type 0} (r : Result A Trap) → then_value r (λ a. Ok a) ≡ r
then_ok (Ok a) = refl
then_ok (Err t) = refl

module _ (start : ℕ) (old : Cells) where
  -- through a whole container
  whole_leaves : (c : Contents) (r : Result Cells Trap) (p : Result Contents Trap) → Goes (bind_of start c) old r p → LeavesAs start c r p
  whole_leaves c (Ok new) (Ok d) g = left_as start c d new g.holds
  whole_leaves c (Ok new) (Err u) g = absurd g
  whole_leaves c (Err t) (Ok d) g = absurd g
  whole_leaves c (Err t) (Err u) g = g

  -- through the elements that a name stands for
  part_leaves : (b : Bind) (c : Contents) (f : List ℤ → Contents) → ((new : Cells) (ys : List ℤ) → Becomes b old new (Elements ys)
      → Holds new (bind_of start c) (f ys))
      → (r : Result Cells Trap) (q : Result (List ℤ) Trap) → Goes b old r (then_value q (λ ys. Ok (Elements ys)))
      → LeavesAs start c r (then_value q (λ ys. Ok (f ys)))
  part_leaves b c f all (Ok new) (Ok ys) g = left_as start c (f ys) new (all new ys g)
  part_leaves b c f all (Ok new) (Err u) g = absurd g
  part_leaves b c f all (Err t) (Ok ys) g = absurd g
  part_leaves b c f all (Err t) (Err u) g = g

  -- an operation on the words of a name is of a kind that plans have, and does what the change does
  abbrev pub Does : (Bind → Type 0) → Value → Contents → Result Cells Trap → Result Contents Trap → Type 0
  Does MayBe v c r p = MayBe (bind_for v start c) × LeavesAs start c r p

  -- `set` of an element
  put_elements : (b : Bind) (xs : List ℤ) (i n : ℤ) → Goes b old (put_word 0 i n b old) (put_in 0 0 i n (Elements xs))
      → Goes b old (put_word 0 i n b old) (then_value (set_at xs i n) (λ ys. Ok (Elements ys)))
  put_elements b xs i n g = subst (Goes b old (put_word 0 i n b old)) (then_ok (then_value (set_at xs i n) (λ ys. Ok (Elements ys)))) g

  set_element : (i n : ℤ) (v : Value) (c : Contents) → IsSeen v c → kind_in (kind_seen v c) HAS_ELEMENTS ≡ true → end_of (bind_for v start c) < 2 ^ 32
      → Holds old (bind_of start c) c
      → Does MayBeSet v c (set_cells (bind_for v start c) i n old) (set_in v c (Some i) n)
  set_element i n Value.Dead c u k fits h = absurd u
  set_element i n (Value.Whole m) (Elements xs) u k fits h =
      let b = bind_of start (Elements xs) in (
        tt,
        whole_leaves (Elements xs) (put_word 0 i n b old) (then_value (set_at xs i n) (λ ys. Ok (Elements ys)))
            (put_elements b xs i n (put_goes old b (Elements xs) 0 i n fits h)),
      )
  set_element i n (Value.Whole m) (Single z) u k fits h = absurd (false≢true k)
  set_element i n (Value.Whole m) (Items cap xs) u k fits h =
      let b = bind_of start (Items cap xs) in (
        tt,
        whole_leaves (Items cap xs) (put_word 0 i n b old) (then_value (set_at xs i n) (λ ys. Ok (Items cap ys)))
            (put_goes old b (Items cap xs) 0 i n fits h),
      )
  set_element i n (Value.Whole m) (Pairs cap ps) u k fits h = absurd (false≢true k)
  set_element i n (Value.Whole m) (Entries room es) u k fits h = absurd (false≢true k)
  set_element i n (Value.Slice m from len) (Elements xs) u k fits h =
      let v = Value.Slice m from len in
      let b = bind_for v start (Elements xs) in
      let ys = value_elements v (Elements xs) in (
        tt,
        part_leaves b (Elements xs) (λ zs. with_value_elements v zs (Elements xs))
            (λ new zs g. slice_left old new start 0 from len xs (Elements zs) u h g.holds (λ w is out. g.stays w (λ here none. none (out here))))
            (put_word 0 i n b old) (set_at ys i n)
            (put_elements b ys i n (put_goes old b (Elements ys) 0 i n fits (seen_holds v start old (Elements xs) u h))),
      )
  set_element i n (Value.Slice m from len) (Single z) u k fits h = absurd u
  set_element i n (Value.Slice m from len) (Items cap xs) u k fits h = absurd u
  set_element i n (Value.Slice m from len) (Pairs cap ps) u k fits h = absurd u
  set_element i n (Value.Slice m from len) (Entries room es) u k fits h = absurd u
  set_element i n (Value.View m number) (Elements xs) u k fits h = absurd u
  set_element i n (Value.View m number) (Single z) u k fits h = absurd u
  set_element i n (Value.View m number) (Items cap xs) u k fits h =
      let v = Value.View m number in
      let b = bind_for v start (Items cap xs) in (
        tt,
        part_leaves b (Items cap xs) (λ zs. Items cap zs)
            (λ new zs g. (g.holds.0, ap (λ c. Items cap (elements c)) g.holds.1, g.holds.2))
            (put_word 0 i n b old) (set_at xs i n)
            (put_elements b xs i n (put_goes old b (Elements xs) 0 i n fits (seen_holds v start old (Items cap xs) u h))),
      )
  set_element i n (Value.View m number) (Pairs cap ps) u k fits h = absurd u
  set_element i n (Value.View m number) (Entries room es) u k fits h = absurd u
  set_element i n (Value.Handle jobs) c u k fits h = absurd u

  -- `set` of a reference
  set_value : (i n : ℤ) (v : Value) (c : Contents) → IsSeen v c → kind_in (kind_seen v c) (kind.Reference ∷ []) ≡ true → Holds old (bind_of start c) c
      → Does MayBeSet v c (set_cells (bind_for v start c) i n old) (set_in v c None n)
  set_value i n Value.Dead c u k h = absurd u
  set_value i n (Value.Whole m) (Elements xs) u k h = absurd (false≢true k)
  set_value i n (Value.Whole m) (Single z) u k h = (
    tt,
    left_as start (Single z) (Single n) (set_value_word n (bind_of start (Single z)) old)
        (set_value_goes old (bind_of start (Single z)) (Single z) n (λ y e. absurd cc) h).holds,
  )
  set_value i n (Value.Whole m) (Items cap xs) u k h = absurd (false≢true k)
  set_value i n (Value.Whole m) (Pairs cap ps) u k h = absurd (false≢true k)
  set_value i n (Value.Whole m) (Entries room es) u k h = absurd (false≢true k)
  set_value i n (Value.Slice m from len) c u k h = absurd (false≢true k)
  set_value i n (Value.View m number) c u k h = absurd (false≢true k)
  set_value i n (Value.Handle jobs) c u k h = absurd u

  pub set_does : (at : Option ℤ) (n : ℤ) (v : Value) (c : Contents) → IsSeen v c → kind_in (kind_seen v c) (set_kinds at) ≡ true
      → end_of (bind_for v start c) < 2 ^ 32 → Holds old (bind_of start c) c
      → Does MayBeSet v c (set_cells (bind_for v start c) (unwrap_or at (pos 0)) n old) (set_in v c at n)
  set_does None n v c u k fits h = set_value (pos 0) n v c u k h
  set_does (Some i) n v c u k fits h = set_element i n v c u k fits h

  add_item : (k : ℤ) (n : ℤ) (v : Value) (c : Contents) → IsSeen v c → kind_in (kind_seen v c) (kind.List ∷ []) ≡ true → Holds old (bind_of start c) c
      → Does IsListOrMap v c (add_cells (bind_for v start c) k n old) (add_in c n None)
  add_item key n Value.Dead c u k h = absurd u
  add_item key n (Value.Whole m) (Elements xs) u k h = absurd (false≢true k)
  add_item key n (Value.Whole m) (Single z) u k h = absurd (false≢true k)
  add_item key n (Value.Whole m) (Items cap xs) u k h =
      let b = bind_of start (Items cap xs) in
      (tt, whole_leaves (Items cap xs) (add_cells b key n old) (add_in (Items cap xs) n None) (add_goes old b (Items cap xs) n h))
  add_item key n (Value.Whole m) (Pairs cap ps) u k h = absurd (false≢true k)
  add_item key n (Value.Whole m) (Entries room es) u k h = absurd (false≢true k)
  add_item key n (Value.Slice m from len) c u k h = absurd (false≢true k)
  add_item key n (Value.View m number) c u k h = absurd (false≢true k)
  add_item key n (Value.Handle jobs) c u k h = absurd u

  add_pair : (key n : ℤ) (v : Value) (c : Contents) → IsSeen v c → kind_in (kind_seen v c) (kind.Map ∷ []) ≡ true → end_of (bind_for v start c) < 2 ^ 32
      → Holds old (bind_of start c) c
      → Does IsListOrMap v c (add_cells (bind_for v start c) key n old) (add_in c key (Some n))
  add_pair key n Value.Dead c u k fits h = absurd u
  add_pair key n (Value.Whole m) (Elements xs) u k fits h = absurd (false≢true k)
  add_pair key n (Value.Whole m) (Single z) u k fits h = absurd (false≢true k)
  add_pair key n (Value.Whole m) (Items cap xs) u k fits h = absurd (false≢true k)
  add_pair key n (Value.Whole m) (Pairs cap ps) u k fits h =
      let b = bind_of start (Pairs cap ps) in
      (tt, whole_leaves (Pairs cap ps) (add_cells b key n old) (add_in (Pairs cap ps) key (Some n)) (add_pair_goes old b (Pairs cap ps) key n fits h))
  add_pair key n (Value.Whole m) (Entries room es) u k fits h = absurd (false≢true k)
  add_pair key n (Value.Slice m from len) c u k fits h = absurd (false≢true k)
  add_pair key n (Value.View m number) c u k fits h = absurd (false≢true k)
  add_pair key n (Value.Handle jobs) c u k fits h = absurd u

  pub add_list_does : (n : ℤ) (v : Value) (c : Contents) → IsSeen v c → kind_in (kind_seen v c) (add_kinds None) ≡ true → Holds old (bind_of start c) c
      → Does IsListOrMap v c (add_cells (bind_for v start c) (pos 0) n old) (add_in c n None)
  add_list_does n v c u k h = add_item (pos 0) n v c u k h

  pub add_map_does : (key n : ℤ) (v : Value) (c : Contents) → IsSeen v c → kind_in (kind_seen v c) (add_kinds (Some n)) ≡ true
      → end_of (bind_for v start c) < 2 ^ 32 → Holds old (bind_of start c) c
      → Does IsListOrMap v c (add_cells (bind_for v start c) key n old) (add_in c key (Some n))
  add_map_does key n v c u k fits h = add_pair key n v c u k fits h

  pub put_does : (key n : ℤ) (v : Value) (c : Contents) → IsSeen v c → kind_in (kind_seen v c) (kind.Map ∷ []) ≡ true → end_of (bind_for v start c) < 2 ^ 32
      → Holds old (bind_of start c) c
      → Does IsMap v c (put_word 0 key n (bind_for v start c) old) (put_pair_in c key n)
  put_does key n Value.Dead c u k fits h = absurd u
  put_does key n (Value.Whole m) (Elements xs) u k fits h = absurd (false≢true k)
  put_does key n (Value.Whole m) (Single z) u k fits h = absurd (false≢true k)
  put_does key n (Value.Whole m) (Items cap xs) u k fits h = absurd (false≢true k)
  put_does key n (Value.Whole m) (Pairs cap ps) u k fits h =
      let b = bind_of start (Pairs cap ps) in
      (tt, whole_leaves (Pairs cap ps) (put_word 0 key n b old) (put_pair_in (Pairs cap ps) key n) (put_goes old b (Pairs cap ps) 0 key n fits h))
  put_does key n (Value.Whole m) (Entries room es) u k fits h = absurd (false≢true k)
  put_does key n (Value.Slice m from len) c u k fits h = absurd (false≢true k)
  put_does key n (Value.View m number) c u k fits h = absurd (false≢true k)
  put_does key n (Value.Handle jobs) c u k fits h = absurd u

  -- `remove` of a map asks for the key first, in the words as in the pairs
  remove_by : (cap : ℕ) (ps qs : List (ℤ × ℤ)) (new : Cells) (a b : Bool) → b ≡ a → Leaves start (Pairs cap ps) new (Pairs cap qs)
      → LeavesAs start (Pairs cap ps) (if a then Ok new else Err MissingKey) (then_value (if b then Ok qs else Err MissingKey) (λ rs. Ok (Pairs cap rs)))
  remove_by cap ps qs new true true e l = l
  remove_by cap ps qs new false false e l = refl
  remove_by cap ps qs new true false e l = absurd cc
  remove_by cap ps qs new false true e l = absurd cc

  pub remove_does : (i : ℤ) (v : Value) (c : Contents) → IsSeen v c → kind_in (kind_seen v c) REMOVABLE ≡ true → end_of (bind_for v start c) < 2 ^ 32
      → Holds old (bind_of start c) c
      → Does IsListOrMap v c (remove_cells (bind_for v start c) i old) (remove_in c i)
  remove_does i Value.Dead c u k fits h = absurd u
  remove_does i (Value.Whole m) (Elements xs) u k fits h = absurd (false≢true k)
  remove_does i (Value.Whole m) (Single z) u k fits h = absurd (false≢true k)
  remove_does i (Value.Whole m) (Items cap xs) u k fits h =
      let b = bind_of start (Items cap xs) in
      (tt, whole_leaves (Items cap xs) (remove_cells b i old) (remove_in (Items cap xs) i) (remove_at_goes old b (Items cap xs) i h))
  remove_does i (Value.Whole m) (Pairs cap ps) u k fits h =
      let b = bind_of start (Pairs cap ps) in (
        tt,
        remove_by cap ps (without_key ps i) (remove_key_word i b old) (has_word i b old) (has_key ps i)
            (ap (λ c. has_key (pairs_of c) i) h.1 ∙ ap is_some (h.2.pairs i))
            (left_as start (Pairs cap ps) (Pairs cap (without_key ps i)) (remove_key_word i b old) (remove_key_goes old b (Pairs cap ps) i fits h).holds),
      )
  remove_does i (Value.Whole m) (Entries room es) u k fits h = absurd (false≢true k)
  remove_does i (Value.Slice m from len) c u k fits h = absurd (false≢true k)
  remove_does i (Value.View m number) c u k fits h = absurd (false≢true k)
  remove_does i (Value.Handle jobs) c u k fits h = absurd u

  clear_leaves : (c : Contents) → Holds old (bind_of start c) c → Leaves start c (clear_word (bind_of start c) old) (cleared c)
  clear_leaves c h = left_as start c (cleared c) (clear_word (bind_of start c) old) (clear_goes old (bind_of start c) c h).holds

  pub clear_does : (v : Value) (c : Contents) → IsSeen v c → kind_in (kind_seen v c) CLEARABLE ≡ true → Holds old (bind_of start c) c
      → Does MayBeCleared v c (Ok (clear_word (bind_for v start c) old)) (Ok (cleared c))
  clear_does Value.Dead c u k h = absurd u
  clear_does (Value.Whole m) (Elements xs) u k h = absurd (false≢true k)
  clear_does (Value.Whole m) (Single z) u k h = absurd (false≢true k)
  clear_does (Value.Whole m) (Items cap xs) u k h = (tt, clear_leaves (Items cap xs) h)
  clear_does (Value.Whole m) (Pairs cap ps) u k h = (tt, clear_leaves (Pairs cap ps) h)
  clear_does (Value.Whole m) (Entries room es) u k h = (tt, clear_leaves (Entries room es) h)
  clear_does (Value.Slice m from len) c u k h = absurd (false≢true k)
  clear_does (Value.View m number) c u k h = absurd (false≢true k)
  clear_does (Value.Handle jobs) c u k h = absurd u
