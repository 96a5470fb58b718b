-- What a change does to a bind's words, it does to the contents that they stand for, and it changes no other word.
use Rattle.std.proofs.Common.{◌≡◌, ◌∙◌, ◌≢◌, ℕ, ◌+◌, ◌≤◌, ◌<◌, ◌^◌, ℤ, pos, Bool, true, false, if◌then◌else◌, ◌⊎◌, inl, inr, ⊎_elim, List, [], length, Option, Result, Ok, Err, refl, sym, ap, subst, arith}
use Rattle.std.proofs.lemmas.Bool.{cases_lt}
use Rattle.job_base.specs.declared.Trap.{Trap}
use Rattle.job_base.specs.declared.Trap.TheVariants.{Range, OwnIndex}
use Rattle.job_base.specs.Forms.{SameBeyond, Reaches}
use Rattle.job_base.proofs.Windows.{with_cell-same, with_cell-other}
use Rattle.frame_ast.specs.Contents.{Contents, Cells, Single, Items, Pairs, Entries, then_value, place_in, set_at, add_item, swap_back, add_key, put_key, begin_index, write_index, cleared, with_single, elements, with_elements}
use Rattle.frame_ast.specs.Arguments.{owns, if_owned, put_in, on_items, on_pairs, without, begin_in, write_place}
use Rattle.native_array.specs.Effects.{done}
use Rattle.native_array.specs.Words.{set_words as array_set}
use Rattle.native_array.proofs.Forms.{set_form as array_set_form}
use Rattle.native_list.specs.declared.ListAt.{ListAt}
use Rattle.native_list.specs.Layout.{HoldsItems, StandsFor as ListStandsFor}
use Rattle.native_list.specs.Words.{array_words, len_words, set_words as list_set}
use Rattle.native_list.proofs.Standing.{length_within}
use Rattle.native_list.proofs.Forms.{set_form as list_set_form, add_form as list_add_form, remove_form as list_remove_form}
use Rattle.native_map.specs.Words.{remove_words}
use Rattle.native_map.proofs.Forms.{put_form, add_form as map_add_form, remove_form as map_remove_form, clear_form as map_clear_form}
use Rattle.native_stream.specs.Words.{begin_words, write_words}
use Rattle.native_stream.proofs.Places.{in_place, place_in-below}
use Rattle.native_stream.proofs.Forms.{begin_form, write_form, clear_form as stream_clear_form}
use Rattle.kernel_exec.specs.declared.binds.Bind.{Bind}
use Rattle.kernel_exec.specs.declared.binds.Bind.TheVariants.{Int, Array, View, List as WholeList, Ref, Map, Stream}
use Rattle.kernel_exec.specs.Binds.{own_of, width_if, start_of, end_of, IsWordOf}
use Rattle.kernel_exec.specs.Footprint.{IsLength}
use Rattle.kernel_exec.specs.Layout.{Holds}
use Rattle.kernel_exec.specs.Words.{after_call, set_value_word, put_word, add_word, remove_at_word, add_pair_word, remove_key_word, clear_word, begin_word, write_word}

-- not a word that may be written through the bind
abbrev pub IsBeyond : Bind → ℕ → Type 0
IsBeyond b w = IsWordOf b w → (IsLength b w → ⊥) → ⊥

-- the new cells of the bind stand for the new contents, and the other cells stay
pub record Becomes (b : Bind) (old new : ℕ → ℤ) (c : Contents) : Type 0 where
  pub holds : Holds new b c
  pub stays : (w : ℕ) → IsBeyond b w → new w ≡ old w

-- both went on, or both met the same trap
abbrev pub Goes : Bind → (ℕ → ℤ) → Result (ℕ → ℤ) Trap → Result Contents Trap → Type 0
Goes b old (Ok new) (Ok c) = Becomes b old new c
Goes b old (Ok new) (Err u) = ⊥
Goes b old (Err t) (Ok c) = ⊥
Goes b old (Err t) (Err u) = t ≡ u

pub outside : (start end w : ℕ) → (start ≤ w → w < end → ⊥) → (w < start) ⊎ (end ≤ w)
outside start end w out =
    ⊎_elim (λ lt. inl lt) (λ le. ⊎_elim (λ lt. absurd (out le lt)) (λ ge. inr ge) (cases_lt w end)) (cases_lt w start)

pub beyond : (b : Bind) (old new : ℕ → ℤ) → ((w : ℕ) → IsLength b w → ⊥) → SameBeyond (start_of b) (end_of b) old new → (w : ℕ) → IsBeyond b w → new w ≡ old w
beyond b old new none same w out =
    same w (outside (start_of b) (end_of b) w (λ lo hi. out (record { from = lo; below = hi }) (none w)))

none : (b : Bind) (old : ℕ → ℤ) (op : Result Contents Trap) → op ≡ Err Range → Goes b old (Err Range) op
none b old op e = subst (λ q. Goes b old (Err Range) q) (sym e) refl

same_cells : (b : Bind) (old : ℕ → ℤ) (c d : Contents) → Holds old b c → d ≡ c → Becomes b old old d
same_cells b old c d h e = record { holds = subst (λ c. Holds old b c) (sym e) h; stays = λ w out. refl }

-- what a call did by its word form, from what its effect says
from_call : {A : Type 0} (answer : A) (b : Bind) (old : ℕ → ℤ) (c : Contents) (f : Result A Trap × (ℕ → ℤ)) (op : Result Contents Trap)
    → ((w : ℕ) → IsLength b w → ⊥) → Reaches (λ cells c. Holds cells b c) f (done answer c op) → SameBeyond (start_of b) (end_of b) old f.1
    → Goes b old (after_call f) op
from_call answer b old c f op whole reach beyond_ = cases f.0 f.1 op reach beyond_
  where
    cases : (r : Result _ Trap) (new : ℕ → ℤ) (op : Result Contents Trap) → Reaches (λ cells c. Holds cells b c) (r, new) (done answer c op)
        → SameBeyond (start_of b) (end_of b) old new → Goes b old (after_call (r, new)) op
    cases (Ok a) new (Ok d) q s = record { holds = q.1; stays = beyond b old new whole s }
    cases (Ok a) new (Err u) q s = let e = q.0 in cc
    cases (Err t) new (Ok d) q s = let e = q.0 in cc
    cases (Err t) new (Err u) q s = let e = q.0 in cc

-- the own-index rule
owned : (b : Bind) (old : ℕ → ℤ) (width index : ℕ) (i : ℤ) (r : Result (ℕ → ℤ) Trap) (op : Result Contents Trap) → Goes b old r op
    → Goes b old (if_owned width index i r) (if_owned width index i op)
owned b old width index i (Ok new) (Ok c) g = by (owns width index i)
  where
    by : (o : Bool) → Goes b old (if o then Ok new else Err OwnIndex) (if o then Ok c else Err OwnIndex)
    by true = g
    by false = refl
owned b old width index i (Ok new) (Err u) g = absurd g
owned b old width index i (Err t) (Ok c) g = absurd g
owned b old width index i (Err t) (Err u) g = g

module _ (old : ℕ → ℤ) where
  pub set_value_goes : (b : Bind) (c : Contents) (v : ℤ) → ((z : ℤ) → b ≢ Int z) → Holds old b c → Becomes b old (set_value_word v b old) (with_single v c)
  set_value_goes (Int z) c v kind h = absurd (kind z refl)
  set_value_goes (Array at own) c v kind h = same_cells (Array at own) old c _ h (ap (with_single v) h ∙ sym h)
  set_value_goes (View at own) c v kind h = same_cells (View at own) old c _ h (ap (with_single v) h.1 ∙ sym h.1)
  set_value_goes (WholeList at) c v kind h = same_cells (WholeList at) old c _ h (ap (with_single v) h.1 ∙ sym h.1)
  set_value_goes (Ref at) c v kind h = record {
    holds = ap (with_single v) h ∙ ap Single (sym (with_cell-same old at.start v));
    stays = λ w out. with_cell-other old at.start v w (λ e. out (record { from = omega arith; below = omega arith }) (λ l. l));
  }
  set_value_goes (Map at) c v kind h = same_cells (Map at) old c _ h (ap (with_single v) h.1 ∙ sym h.1)
  set_value_goes (Stream at own) c v kind h = same_cells (Stream at own) old c _ h (ap (with_single v) h.1 ∙ sym h.1)

  -- `x[e] = f` through a view: the list's elements change, and its length stays
  view_set : (at : ListAt) (own : ℕ) (xs : List ℤ) (i v : ℤ) → HoldsItems at old xs
      → Goes (View at own) old (after_call (list_set at old i v)) (then_value (set_at xs i v) (λ ys. Ok (Cells ys)))
  view_set at own xs i v h =
      cases (list_set at old i v).0 (list_set at old i v).1 (set_at xs i v) ((list_set_form at i v).stands old (Items at.cap xs) (xs, refl, h))
      ((array_set_form (array_words at old) i v).changes old)
    where
      cases : (r : Result (Unit {0}) Trap) (new : ℕ → ℤ) (p : Result (List ℤ) Trap)
          → Reaches (ListStandsFor at) (r, new) (done tt (Items at.cap xs) (then_value p (λ ys. Ok (Items at.cap ys))))
          → SameBeyond (at.start + 1) (at.start + 1 + len_words at old) old new
          → Goes (View at own) old (after_call (r, new)) (then_value p (λ ys. Ok (Cells ys)))
      cases (Ok u) new (Ok ys) q s = record {
        holds = (q.1.0, same_items ys q.1.0 q.1.1, q.1.2);
        stays = λ w out. s w (outside (at.start + 1) (at.start + 1 + len_words at old) w
            (λ lo hi. let r : len_words at old ≤ at.cap = length_within at.cap (old at.start) in
            out (record { from = omega arith; below = omega arith }) (λ e. omega arith)));
      }
        where
          same_items : (ys zs : List ℤ) → Items at.cap ys ≡ Items at.cap zs → Cells ys ≡ Cells zs
          same_items ys zs e = cc
      cases (Ok u) new (Err t) q s = let e = q.0 in cc
      cases (Err t) new (Ok ys) q s = let e = q.0 in cc
      cases (Err t) new (Err u) q s = let e = q.0 in cc

  put_cells : (width index : ℕ) (i v : ℤ) (b : Bind) (r : Result (ℕ → ℤ) Trap) (c : Contents) (xs : List ℤ) → c ≡ Cells xs
      → Goes b old r (then_value (set_at xs i v) (λ ys. Ok (Cells ys))) → Goes b old (if_owned width index i r) (put_in width index i v c)
  put_cells width index i v b r c xs e g =
      subst (λ c. Goes b old (if_owned width index i r) (put_in width index i v c)) (sym e) (owned b old width index i r _ g)

  -- an operation of another spelling, which is the same on contents of this kind
  at_kind : (b : Bind) (r : Result (ℕ → ℤ) Trap) (f : Contents → Result Contents Trap) (q : Result Contents Trap) (c d : Contents) → c ≡ d → f d ≡ q
      → Goes b old r (f c) → Goes b old r q
  at_kind b r f q c d e same goes = subst (λ q. Goes b old r q) (ap f e ∙ same) goes

  abbrev array_op : ℤ → ℤ → Contents → Result Contents Trap
  array_op i v c = then_value (set_at (elements c) i v) (λ ys. Ok (with_elements ys c))

  pub put_goes : (b : Bind) (c : Contents) (index : ℕ) (i v : ℤ) → end_of b < 2 ^ 32 → Holds old b c
      → Goes b old (put_word index i v b old) (put_in (own_of b) index i v c)
  put_goes (Int z) c index i v fits h = none (Int z) old _ (ap (put_in 0 index i v) h)
  put_goes (Array at own) c index i v fits h =
      put_cells own index i v (Array at own) (after_call (array_set at old i v)) c _ h
      (at_kind (Array at own) (after_call (array_set at old i v)) (array_op i v) _ c _ h refl
      (from_call tt (Array at own) old c (array_set at old i v) (array_op i v c) (λ w l. l) ((array_set_form at i v).stands old c h)
      ((array_set_form at i v).changes old)))
  put_goes (View at own) c index i v fits h = put_cells own index i v (View at own) (after_call (list_set at old i v)) c h.0 h.1 (view_set at own h.0 i v h.2)
  put_goes (WholeList at) c index i v fits h =
      at_kind (WholeList at) (after_call (list_set at old i v)) (array_op i v) (put_in 0 index i v c) c (Items at.cap h.0) h.1
      (sym (ap (put_in 0 index i v) h.1))
      (from_call tt (WholeList at) old c (list_set at old i v) (array_op i v c) (λ w l. l) ((list_set_form at i v).stands old c h)
      ((list_set_form at i v).changes old))
  put_goes (Ref at) c index i v fits h = none (Ref at) old _ (ap (put_in 0 index i v) h)
  put_goes (Map at) c index i v fits h =
      at_kind (Map at) _ (on_pairs (λ cap ps. put_key cap ps i v)) (put_in 0 index i v c) c (Pairs at.cap h.0) h.1 (sym (ap (put_in 0 index i v) h.1))
      (from_call tt (Map at) old c _ (on_pairs (λ cap ps. put_key cap ps i v) c) (λ w l. l) ((put_form at i v fits).stands old c h)
      ((put_form at i v fits).changes old))
  put_goes (Stream at own) c index i v fits h = none (Stream at own) old _ (ap (put_in _ index i v) h.1)

  abbrev add_op : ℤ → Contents → Result Contents Trap
  add_op v = on_items (λ cap xs. add_item cap xs v)

  pub add_goes : (b : Bind) (c : Contents) (v : ℤ) → Holds old b c → Goes b old (add_word v b old) (on_items (λ cap xs. add_item cap xs v) c)
  add_goes (Int z) c v h = none (Int z) old _ (ap (add_op v) h)
  add_goes (Array at own) c v h = none (Array at own) old _ (ap (add_op v) h)
  add_goes (View at own) c v h = none (View at own) old _ (ap (add_op v) h.1)
  add_goes (WholeList at) c v h = from_call tt (WholeList at) old c _ (add_op v c) (λ w l. l) ((list_add_form at v).stands old c h)
      ((list_add_form at v).changes old)
  add_goes (Ref at) c v h = none (Ref at) old _ (ap (add_op v) h)
  add_goes (Map at) c v h = none (Map at) old _ (ap (add_op v) h.1)
  add_goes (Stream at own) c v h = none (Stream at own) old _ (ap (add_op v) h.1)

  abbrev remove_op : ℤ → Contents → Result Contents Trap
  remove_op i = on_items (λ cap xs. swap_back xs i)

  pub remove_at_goes : (b : Bind) (c : Contents) (i : ℤ) → Holds old b c → Goes b old (remove_at_word i b old) (on_items (λ cap xs. swap_back xs i) c)
  remove_at_goes (Int z) c i h = none (Int z) old _ (ap (remove_op i) h)
  remove_at_goes (Array at own) c i h = none (Array at own) old _ (ap (remove_op i) h)
  remove_at_goes (View at own) c i h = none (View at own) old _ (ap (remove_op i) h.1)
  remove_at_goes (WholeList at) c i h = from_call tt (WholeList at) old c _ (remove_op i c) (λ w l. l) ((list_remove_form at i).stands old c h)
      ((list_remove_form at i).changes old)
  remove_at_goes (Ref at) c i h = none (Ref at) old _ (ap (remove_op i) h)
  remove_at_goes (Map at) c i h = none (Map at) old _ (ap (remove_op i) h.1)
  remove_at_goes (Stream at own) c i h = none (Stream at own) old _ (ap (remove_op i) h.1)

  abbrev pair_op : ℤ → ℤ → Contents → Result Contents Trap
  pair_op k v = on_pairs (λ cap ps. add_key cap ps k v)

  pub add_pair_goes : (b : Bind) (c : Contents) (k v : ℤ) → end_of b < 2 ^ 32 → Holds old b c
      → Goes b old (add_pair_word k v b old) (on_pairs (λ cap ps. add_key cap ps k v) c)
  add_pair_goes (Int z) c k v fits h = none (Int z) old _ (ap (pair_op k v) h)
  add_pair_goes (Array at own) c k v fits h = none (Array at own) old _ (ap (pair_op k v) h)
  add_pair_goes (View at own) c k v fits h = none (View at own) old _ (ap (pair_op k v) h.1)
  add_pair_goes (WholeList at) c k v fits h = none (WholeList at) old _ (ap (pair_op k v) h.1)
  add_pair_goes (Ref at) c k v fits h = none (Ref at) old _ (ap (pair_op k v) h)
  add_pair_goes (Map at) c k v fits h = from_call tt (Map at) old c _ (pair_op k v c) (λ w l. l) ((map_add_form at k v fits).stands old c h)
      ((map_add_form at k v fits).changes old)
  add_pair_goes (Stream at own) c k v fits h = none (Stream at own) old _ (ap (pair_op k v) h.1)

  pub remove_key_goes : (b : Bind) (c : Contents) (k : ℤ) → end_of b < 2 ^ 32 → Holds old b c → Becomes b old (remove_key_word k b old) (without k c)
  remove_key_goes (Int z) c k fits h = same_cells (Int z) old c _ h (ap (without k) h ∙ sym h)
  remove_key_goes (Array at own) c k fits h = same_cells (Array at own) old c _ h (ap (without k) h ∙ sym h)
  remove_key_goes (View at own) c k fits h = same_cells (View at own) old c _ h (ap (without k) h.1 ∙ sym h.1)
  remove_key_goes (WholeList at) c k fits h = same_cells (WholeList at) old c _ h (ap (without k) h.1 ∙ sym h.1)
  remove_key_goes (Ref at) c k fits h = same_cells (Ref at) old c _ h (ap (without k) h ∙ sym h)
  remove_key_goes (Map at) c k fits h = record {
    holds = ((map_remove_form at k fits).stands old c h).1;
    stays = beyond (Map at) old (remove_words at old k).1 (λ w l. l) ((map_remove_form at k fits).changes old);
  }
  remove_key_goes (Stream at own) c k fits h = same_cells (Stream at own) old c _ h (ap (without k) h.1 ∙ sym h.1)

  pub clear_goes : (b : Bind) (c : Contents) → Holds old b c → Becomes b old (clear_word b old) (cleared c)
  clear_goes (Int z) c h = same_cells (Int z) old c _ h (ap cleared h ∙ sym h)
  clear_goes (Array at own) c h = same_cells (Array at own) old c _ h (ap cleared h ∙ sym h)
  clear_goes (View at own) c h = same_cells (View at own) old c _ h (ap cleared h.1 ∙ sym h.1)
  clear_goes (WholeList at) c h = record {
    holds = ([], ap cleared h.1, record { count = with_cell-same old at.start (pos 0); within = omega arith; elements = refl });
    stays = λ w out. with_cell-other old at.start (pos 0) w (λ e. out (record { from = omega arith; below = omega arith }) (λ l. l));
  }
  clear_goes (Ref at) c h = same_cells (Ref at) old c _ h (ap cleared h ∙ sym h)
  clear_goes (Map at) c h = record {
    holds = ((map_clear_form at).stands old c h).1;
    stays = beyond (Map at) old _ (λ w l. l) ((map_clear_form at).changes old);
  }
  clear_goes (Stream at own) c h = record {
    holds = ((stream_clear_form at).stands old c h).1;
    stays = beyond (Stream at own) old _ (λ w l. l) ((stream_clear_form at).changes old);
  }

  -- streams: a restricted index that is one, and is its own, is begun as any other
  begin_stream : (own : Bool) (index : ℕ) (i : ℤ) (b : Bind) (es : List (Option (List ℤ))) (room n : ℕ) (r : Result (ℕ → ℤ) Trap)
      → Goes b old r (begin_in 0 0 i (Entries room es)) → n ≡ length es
      → Goes b old (then_value (if_owned (width_if own) index i (place_in n i)) (λ k. r)) (begin_in (width_if own) index i (Entries room es))
  begin_stream own index i b es room n r g e = rw e (by (place_in (length es) i) refl)
    where
      by : (p : Result ℕ Trap) → place_in (length es) i ≡ p → Goes b old (then_value (if_owned (width_if own) index i p) (λ k. r))
          (then_value (if_owned (width_if own) index i p) (λ k. then_value (begin_index es i) (λ fs. Ok (Entries room fs))))
      by (Err t) q = refl
      by (Ok k) q = at (owns (width_if own) index i)
        where
          at : (o : Bool) → Goes b old (then_value (if o then Ok k else Err OwnIndex) (λ k. r))
              (then_value (if o then Ok k else Err OwnIndex) (λ k. then_value (begin_index es i) (λ fs. Ok (Entries room fs))))
          at true = subst (λ p. Goes b old r (then_value (then_value p (λ a. Ok a)) (λ k. then_value (begin_index es i) (λ fs. Ok (Entries room fs))))) q g
          at false = refl

  pub begin_goes : (b : Bind) (c : Contents) (index : ℕ) (i : ℤ) → Holds old b c → Goes b old (begin_word index i b old) (begin_in (own_of b) index i c)
  begin_goes (Int z) c index i h = none (Int z) old _ (ap (begin_in 0 index i) h)
  begin_goes (Array at own) c index i h = none (Array at own) old _ (ap (begin_in own index i) h)
  begin_goes (View at own) c index i h = none (View at own) old _ (ap (begin_in own index i) h.1)
  begin_goes (WholeList at) c index i h = none (WholeList at) old _ (ap (begin_in 0 index i) h.1)
  begin_goes (Ref at) c index i h = none (Ref at) old _ (ap (begin_in 0 index i) h)
  begin_goes (Map at) c index i h = none (Map at) old _ (ap (begin_in 0 index i) h.1)
  begin_goes (Stream at own) c index i h =
      at_kind (Stream at own) _ (λ d. begin_in (width_if own) index i (Entries at.room h.0)) _ c c refl (sym (ap (begin_in (width_if own) index i) h.1))
      (begin_stream own index i (Stream at own) h.0 at.room at.count (after_call (begin_words at old i))
      (at_kind (Stream at own) _ (begin_in 0 0 i) _ c _ h.1 refl
      (from_call tt (Stream at own) old c (begin_words at old i) (begin_in 0 0 i c) (λ w l. l) ((begin_form at i).stands old c h)
      ((begin_form at i).changes old)))
      (sym h.2.number))

  write_stream : (i v : ℤ) (b : Bind) (es : List (Option (List ℤ))) (room n : ℕ) (r : ℕ → Result (ℕ → ℤ) Trap) → n ≡ length es
      → ((k : ℕ) → place_in n i ≡ Ok k → Goes b old (r k) (then_value (write_index room es k v) (λ fs. Ok (Entries room fs))))
      → Goes b old (then_value (place_in n i) r) (write_place i (Entries room es) v)
  write_stream i v b es room n r e g =
      subst (λ m. Goes b old (then_value (place_in n i) r) (then_value (place_in m i) (λ k. then_value (write_index room es k v) (λ fs. Ok (Entries room fs)))))
      e (by (place_in n i) refl)
    where
      by : (p : Result ℕ Trap) → place_in n i ≡ p → Goes b old (then_value p r)
          (then_value p (λ k. then_value (write_index room es k v) (λ fs. Ok (Entries room fs))))
      by (Ok k) q = g k q
      by (Err t) q = refl

  abbrev write_op : ℤ → ℤ → Contents → Result Contents Trap
  write_op i v c = write_place i c v

  -- `write` at an index of the stream, by its number
  written : (room : ℕ) (es : List (Option (List ℤ))) (v : ℤ) (k : ℕ) → k < length es
      → write_place (pos k) (Entries room es) v ≡ then_value (write_index room es k v) (λ fs. Ok (Entries room fs))
  written room es v k h = ap (λ p. then_value p (λ k. then_value (write_index room es k v) (λ fs. Ok (Entries room fs)))) (place_in-below (length es) k h)

  pub write_goes : (b : Bind) (c : Contents) (i v : ℤ) → Holds old b c → Goes b old (write_word i v b old) (write_place i c v)
  write_goes (Int z) c i v h = none (Int z) old _ (ap (write_op i v) h)
  write_goes (Array at own) c i v h = none (Array at own) old _ (ap (write_op i v) h)
  write_goes (View at own) c i v h = none (View at own) old _ (ap (write_op i v) h.1)
  write_goes (WholeList at) c i v h = none (WholeList at) old _ (ap (write_op i v) h.1)
  write_goes (Ref at) c i v h = none (Ref at) old _ (ap (write_op i v) h)
  write_goes (Map at) c i v h = none (Map at) old _ (ap (write_op i v) h.1)
  write_goes (Stream at own) c i v h =
      at_kind (Stream at own) _ (λ d. write_place i (Entries at.room h.0) v) _ c c refl (sym (ap (write_op i v) h.1))
      (write_stream i v (Stream at own) h.0 at.room at.count (λ k. after_call (write_words at old k v)) (sym h.2.number) (λ k q.
      let below = in_place at.count k i q in
      let n = h.2.number in
      at_kind (Stream at own) _ (write_op (pos k) v) _ c _ h.1 (written at.room h.0 v k (omega arith))
      (from_call tt (Stream at own) old c (write_words at old k v) (write_place (pos k) c v) (λ w l. l) ((write_form at k v below).stands old c h)
      ((write_form at k v below).changes old))))
