-- What is read of a bind's words is what is read of the contents that they stand for.
use Rattle.std.proofs.Common.{◌≡◌, ◌∙◌, ℕ, ◌≤◌, ℤ, List, length, Result, Ok, min, refl, sym, ap, subst, arith}
use Rattle.job_base.specs.declared.Trap.{Trap}
use Rattle.frame_ast.specs.Contents.{Contents, Cells, Items, then_value, item_at, elements, has_key}
use Rattle.frame_ast.specs.Arguments.{if_owned, value_in, length_of, get_in, pairs_of, items_in}
use Rattle.native_array.proofs.Forms.{get_form as array_get_form}
use Rattle.native_list.specs.declared.ListAt.{ListAt}
use Rattle.native_list.specs.Layout.{HoldsItems}
use Rattle.native_list.specs.Words.{length_in, len_words}
use Rattle.native_list.proofs.Forms.{get_form as list_get_form}
use Rattle.native_map.proofs.Forms.{get_form as map_get_form, has_form, count_form}
use Rattle.native_map.proofs.Standing.{get_in-is}
use Rattle.native_stream.proofs.Forms.{items_form, at_form}
use Rattle.job_base.proofs.Windows.{length-cell_list}
use Rattle.kernel_exec.specs.declared.binds.Bind.{Bind}
use Rattle.kernel_exec.specs.declared.binds.Bind.TheVariants.{Int, Array, View, List as WholeList, Ref, Map, Stream}
use Rattle.kernel_exec.specs.Binds.{own_of}
use Rattle.kernel_exec.specs.Layout.{Holds}
use Rattle.kernel_exec.specs.Words.{value_word, length_word, get_word, has_word, count_word, item_word}

pub len_is : (at : ListAt) (cells : ℕ → ℤ) (xs : List ℤ) → HoldsItems at cells xs → len_words at cells ≡ length xs
len_is at cells xs h = let w = h.within in ap (length_in at.cap) h.count ∙ least (length xs) at.cap w
  where
    least : (n m : ℕ) → n ≤ m → min n m ≡ n
    least n m le = omega arith

module _ (cells : ℕ → ℤ) where
  pub value_same : (b : Bind) (c : Contents) → Holds cells b c → value_word b cells ≡ value_in c
  value_same (Int z) c h = sym (ap value_in h)
  value_same (Array at own) c h = sym (ap value_in h)
  value_same (View at own) c h = sym (ap value_in h.1)
  value_same (WholeList at) c h = sym (ap value_in h.1)
  value_same (Ref at) c h = sym (ap value_in h)
  value_same (Map at) c h = sym (ap value_in h.1)
  value_same (Stream at own) c h = sym (ap value_in h.1)

  pub length_same : (b : Bind) (c : Contents) → Holds cells b c → length_word b cells ≡ length_of c
  length_same (Int z) c h = sym (ap length_of h)
  length_same (Array at own) c h = sym (ap length_of h ∙ length-cell_list cells at.start at.len)
  length_same (View at own) c h = len_is at cells h.0 h.2 ∙ sym (ap length_of h.1)
  length_same (WholeList at) c h = len_is at cells h.0 h.2 ∙ sym (ap length_of h.1)
  length_same (Ref at) c h = sym (ap length_of h)
  length_same (Map at) c h = ((count_form at).stands cells c h).0
  length_same (Stream at own) c h = sym (ap length_of h.1 ∙ h.2.number)

  -- `x[e]` of an array
  in_cells : (width index : ℕ) (i : ℤ) (c : Contents) (xs : List ℤ) → c ≡ Cells xs → if_owned width index i (item_at (elements c) i) ≡ get_in width index i c
  in_cells width index i c xs e = subst (λ c. if_owned width index i (item_at (elements c) i) ≡ get_in width index i c) (sym e) refl

  in_items : (width index : ℕ) (i : ℤ) (cap : ℕ) (c : Contents) (xs : List ℤ) → c ≡ Items cap xs → item_at (elements c) i ≡ get_in width index i c
  in_items width index i cap c xs e = subst (λ c. item_at (elements c) i ≡ get_in width index i c) (sym e) refl

  pub get_same : (b : Bind) (c : Contents) (index : ℕ) (i : ℤ) → Holds cells b c → get_word index i b cells ≡ get_in (own_of b) index i c
  get_same (Int z) c index i h = sym (ap (get_in 0 index i) h)
  get_same (Array at own) c index i h = ap (if_owned own index i) ((array_get_form at i).stands cells c h).0 ∙ in_cells own index i c _ h
  get_same (View at own) c index i h = ap (if_owned own index i) ((list_get_form at i).stands cells (Items at.cap h.0) (h.0, refl, h.2)).0
      ∙ sym (ap (get_in own index i) h.1)
  get_same (WholeList at) c index i h = ((list_get_form at i).stands cells c h).0 ∙ in_items 0 index i at.cap c h.0 h.1
  get_same (Ref at) c index i h = sym (ap (get_in 0 index i) h)
  get_same (Map at) c index i h = ((map_get_form at i).stands cells c h).0 ∙ sym (get_in-is at cells c h 0 index i)
  get_same (Stream at own) c index i h = sym (ap (get_in _ index i) h.1)

  pub has_same : (b : Bind) (c : Contents) (k : ℤ) → Holds cells b c → has_word k b cells ≡ has_key (pairs_of c) k
  has_same (Int z) c k h = sym (ap (λ c. has_key (pairs_of c) k) h)
  has_same (Array at own) c k h = sym (ap (λ c. has_key (pairs_of c) k) h)
  has_same (View at own) c k h = sym (ap (λ c. has_key (pairs_of c) k) h.1)
  has_same (WholeList at) c k h = sym (ap (λ c. has_key (pairs_of c) k) h.1)
  has_same (Ref at) c k h = sym (ap (λ c. has_key (pairs_of c) k) h)
  has_same (Map at) c k h = ((has_form at k).stands cells c h).0
  has_same (Stream at own) c k h = sym (ap (λ c. has_key (pairs_of c) k) h.1)

  abbrev count_of : ℤ → Contents → Result ℕ Trap
  count_of i c = then_value (items_in i c) (λ xs. Ok (length xs))

  pub count_same : (b : Bind) (c : Contents) (i : ℤ) → Holds cells b c → count_word i b cells ≡ then_value (items_in i c) (λ xs. Ok (length xs))
  count_same (Int z) c i h = sym (ap (count_of i) h)
  count_same (Array at own) c i h = sym (ap (count_of i) h)
  count_same (View at own) c i h = sym (ap (count_of i) h.1)
  count_same (WholeList at) c i h = sym (ap (count_of i) h.1)
  count_same (Ref at) c i h = sym (ap (count_of i) h)
  count_same (Map at) c i h = sym (ap (count_of i) h.1)
  count_same (Stream at own) c i h = ((items_form at i).stands cells c h).0

  abbrev item_in : ℤ → ℤ → Contents → Result ℤ Trap
  item_in i k c = then_value (items_in i c) (λ xs. item_at xs k)

  pub item_same : (b : Bind) (c : Contents) (i k : ℤ) → Holds cells b c → item_word i k b cells ≡ then_value (items_in i c) (λ xs. item_at xs k)
  item_same (Int z) c i k h = sym (ap (item_in i k) h)
  item_same (Array at own) c i k h = sym (ap (item_in i k) h)
  item_same (View at own) c i k h = sym (ap (item_in i k) h.1)
  item_same (WholeList at) c i k h = sym (ap (item_in i k) h.1)
  item_same (Ref at) c i k h = sym (ap (item_in i k) h)
  item_same (Map at) c i k h = sym (ap (item_in i k) h.1)
  item_same (Stream at own) c i k h = ((at_form at i k).stands cells c h).0
