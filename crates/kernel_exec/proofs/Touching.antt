-- Each operation on a bind reads and changes none but the words that an index uses, and a view's length word, which it reads.
use Rattle.std.proofs.Common.{◌≡◌, ◌≢◌, ℕ, ◌+◌, ◌<◌, ◌^◌, ℤ, pos, inl, refl, sym, ap, arith}
use Rattle.job_base.specs.Forms.{AlikeWithin}
use Rattle.frame_ast.specs.declared.kernel.ParamKind.TheVariants.{Stream as StreamKind}
use Rattle.frame_ast.specs.Simulation.{AlikeResults}
use Rattle.native_list.specs.Words.{length_in}
use Rattle.native_list.proofs.Forms.{get_form as list_get_form, set_form as list_set_form, add_form as list_add_form, remove_form as list_remove_form}
use Rattle.native_map.specs.Words.{remove_words, clear_words as map_clear}
use Rattle.native_map.proofs.Forms.{get_form as map_get_form, has_form, count_form, put_form, add_form as map_add_form, remove_form as map_remove_form, clear_form as map_clear_form}
use Rattle.native_stream.proofs.Forms.{items_form, at_form}
use Rattle.kernel_exec.specs.declared.binds.Bind.{Bind}
use Rattle.kernel_exec.specs.declared.binds.Bind.TheVariants.{Int, Array, View, List as WholeList, Ref, Map, Stream}
use Rattle.kernel_exec.specs.Binds.{kind_of, start_of, end_of, IsWordOf}
use Rattle.kernel_exec.specs.Conditions.{IsBegun}
use Rattle.kernel_exec.specs.Words.{value_word, set_value_word, length_word, get_word, put_word, add_word, remove_at_word, has_word, add_pair_word, remove_key_word, clear_word, count_word, item_word, begin_word, write_word}
use Rattle.kernel_exec.proofs.Rights.{array_element}
use Rattle.kernel_exec.proofs.Using.{AgreeAt, Moved, stay, one_more, window, called, element_same, element_moved, same_length, view_same, view_moved, stream_begun, stream_written}

module _ (index : ℕ) (c d : ℕ → ℤ) where
  within : (b : Bind) → ((w : ℕ) → IsWordOf b w → d w ≡ c w) → AlikeWithin (start_of b) (end_of b) c d
  within b agree w lo hi = agree w (record { from = lo; below = hi })

  -- ---- reading

  pub value_same : (b : Bind) → AgreeAt index b c d → value_word b c ≡ value_word b d
  value_same (Int z) agree = refl
  value_same (Array at own) agree = refl
  value_same (View at own) agree = refl
  value_same (WholeList at) agree = refl
  value_same (Ref at) agree = sym (agree at.start (inl (record { from = omega arith; below = omega arith })))
  value_same (Map at) agree = refl
  value_same (Stream at own) agree = refl

  pub length_same : (b : Bind) → AgreeAt index b c d → length_word b c ≡ length_word b d
  length_same (Int z) agree = refl
  length_same (Array at own) agree = refl
  length_same (View at own) agree = sym (same_length index at own c d agree)
  length_same (WholeList at) agree = ap (length_in at.cap) (sym (agree at.start (inl (record { from = omega arith; below = omega arith }))))
  length_same (Ref at) agree = refl
  length_same (Map at) agree = sym ((count_form at).answer c d (within (Map at) (λ w u. agree w (inl u))))
  length_same (Stream at own) agree = refl

  pub get_same : (b : Bind) (i : ℤ) → AgreeAt index b c d → get_word index i b c ≡ get_word index i b d
  get_same (Int z) i agree = refl
  get_same (Array at own) i agree = element_same index at own i c d (λ k e may. agree (at.start + k) (inl (array_element at own index k i e may)))
  get_same (View at own) i agree = view_same index at own c d agree i
  get_same (WholeList at) i agree = sym ((list_get_form at i).answer c d (within (WholeList at) (λ w u. agree w (inl u))))
  get_same (Ref at) i agree = refl
  get_same (Map at) i agree = sym ((map_get_form at i).answer c d (within (Map at) (λ w u. agree w (inl u))))
  get_same (Stream at own) i agree = refl

  pub has_same : (b : Bind) (k : ℤ) → AgreeAt index b c d → has_word k b c ≡ has_word k b d
  has_same (Int z) k agree = refl
  has_same (Array at own) k agree = refl
  has_same (View at own) k agree = refl
  has_same (WholeList at) k agree = refl
  has_same (Ref at) k agree = refl
  has_same (Map at) k agree = sym ((has_form at k).answer c d (within (Map at) (λ w u. agree w (inl u))))
  has_same (Stream at own) k agree = refl

  -- a stream that is only read is read whole
  pub count_same : (b : Bind) (i : ℤ) → ((w : ℕ) → IsWordOf b w → d w ≡ c w) → count_word i b c ≡ count_word i b d
  count_same (Int z) i agree = refl
  count_same (Array at own) i agree = refl
  count_same (View at own) i agree = refl
  count_same (WholeList at) i agree = refl
  count_same (Ref at) i agree = refl
  count_same (Map at) i agree = refl
  count_same (Stream at own) i agree = sym ((items_form at i).answer c d (within (Stream at own) agree))

  pub item_same : (b : Bind) (i k : ℤ) → ((w : ℕ) → IsWordOf b w → d w ≡ c w) → item_word i k b c ≡ item_word i k b d
  item_same (Int z) i k agree = refl
  item_same (Array at own) i k agree = refl
  item_same (View at own) i k agree = refl
  item_same (WholeList at) i k agree = refl
  item_same (Ref at) i k agree = refl
  item_same (Map at) i k agree = refl
  item_same (Stream at own) i k agree = sym ((at_form at i k).answer c d (within (Stream at own) agree))

  -- ---- changing

  pub set_value_moved : (b : Bind) (v : ℤ) → Moved index b c d (set_value_word v b c) (set_value_word v b d)
  set_value_moved (Int z) v = stay index (Int z) c d
  set_value_moved (Array at own) v = stay index (Array at own) c d
  set_value_moved (View at own) v = stay index (View at own) c d
  set_value_moved (WholeList at) v = stay index (WholeList at) c d
  set_value_moved (Ref at) v = one_more index (Ref at) c d c d at.start v v (record { from = omega arith; below = omega arith }) refl (stay index (Ref at) c d)
  set_value_moved (Map at) v = stay index (Map at) c d
  set_value_moved (Stream at own) v = stay index (Stream at own) c d

  pub put_moved : (b : Bind) (i v : ℤ) → end_of b < 2 ^ 32 → AgreeAt index b c d
      → AlikeResults (Moved index b c d) (put_word index i v b c) (put_word index i v b d)
  put_moved (Int z) i v fits agree = refl
  put_moved (Array at own) i v fits agree = element_moved index (Array at own) at own i v c d (λ k e may. array_element at own index k i e may)
  put_moved (View at own) i v fits agree = view_moved index at own c d agree i v
  put_moved (WholeList at) i v fits agree = called index (WholeList at) _ c d (list_set_form at i v) (λ w u. u) agree
  put_moved (Ref at) i v fits agree = refl
  put_moved (Map at) i v fits agree = called index (Map at) _ c d (put_form at i v fits) (λ w u. u) agree
  put_moved (Stream at own) i v fits agree = refl

  pub add_moved : (b : Bind) (v : ℤ) → AgreeAt index b c d → AlikeResults (Moved index b c d) (add_word v b c) (add_word v b d)
  add_moved (Int z) v agree = refl
  add_moved (Array at own) v agree = refl
  add_moved (View at own) v agree = refl
  add_moved (WholeList at) v agree = called index (WholeList at) _ c d (list_add_form at v) (λ w u. u) agree
  add_moved (Ref at) v agree = refl
  add_moved (Map at) v agree = refl
  add_moved (Stream at own) v agree = refl

  pub remove_at_moved : (b : Bind) (i : ℤ) → AgreeAt index b c d → AlikeResults (Moved index b c d) (remove_at_word i b c) (remove_at_word i b d)
  remove_at_moved (Int z) i agree = refl
  remove_at_moved (Array at own) i agree = refl
  remove_at_moved (View at own) i agree = refl
  remove_at_moved (WholeList at) i agree = called index (WholeList at) _ c d (list_remove_form at i) (λ w u. u) agree
  remove_at_moved (Ref at) i agree = refl
  remove_at_moved (Map at) i agree = refl
  remove_at_moved (Stream at own) i agree = refl

  pub add_pair_moved : (b : Bind) (k v : ℤ) → end_of b < 2 ^ 32 → AgreeAt index b c d
      → AlikeResults (Moved index b c d) (add_pair_word k v b c) (add_pair_word k v b d)
  add_pair_moved (Int z) k v fits agree = refl
  add_pair_moved (Array at own) k v fits agree = refl
  add_pair_moved (View at own) k v fits agree = refl
  add_pair_moved (WholeList at) k v fits agree = refl
  add_pair_moved (Ref at) k v fits agree = refl
  add_pair_moved (Map at) k v fits agree = called index (Map at) _ c d (map_add_form at k v fits) (λ w u. u) agree
  add_pair_moved (Stream at own) k v fits agree = refl

  pub remove_key_moved : (b : Bind) (k : ℤ) → end_of b < 2 ^ 32 → AgreeAt index b c d → Moved index b c d (remove_key_word k b c) (remove_key_word k b d)
  remove_key_moved (Int z) k fits agree = stay index (Int z) c d
  remove_key_moved (Array at own) k fits agree = stay index (Array at own) c d
  remove_key_moved (View at own) k fits agree = stay index (View at own) c d
  remove_key_moved (WholeList at) k fits agree = stay index (WholeList at) c d
  remove_key_moved (Ref at) k fits agree = stay index (Ref at) c d
  remove_key_moved (Map at) k fits agree =
      let form = map_remove_form at k fits in
      window index (Map at) c d (remove_words at c k).1 (remove_words at d k).1 (λ w u. u) (form.changes c) (form.changes d)
      (form.reads c d (within (Map at) (λ w u. agree w (inl u))))
  remove_key_moved (Stream at own) k fits agree = stay index (Stream at own) c d

  -- a stream isn't cleared
  pub clear_moved : (b : Bind) → kind_of b ≢ StreamKind → AgreeAt index b c d → Moved index b c d (clear_word b c) (clear_word b d)
  clear_moved (Int z) kind agree = stay index (Int z) c d
  clear_moved (Array at own) kind agree = stay index (Array at own) c d
  clear_moved (View at own) kind agree = stay index (View at own) c d
  clear_moved (WholeList at) kind agree = one_more index (WholeList at) c d c d at.start (pos 0) (pos 0)
      (record { from = omega arith; below = omega arith }) refl (stay index (WholeList at) c d)
  clear_moved (Ref at) kind agree = stay index (Ref at) c d
  clear_moved (Map at) kind agree =
      let form = map_clear_form at in
      window index (Map at) c d (map_clear at c) (map_clear at d) (λ w u. u) (form.changes c) (form.changes d)
      (form.reads c d (within (Map at) (λ w u. agree w (inl u))))
  clear_moved (Stream at own) kind agree = absurd (kind refl)

  pub begin_moved : (b : Bind) (i : ℤ) → AgreeAt index b c d → AlikeResults (Moved index b c d) (begin_word index i b c) (begin_word index i b d)
  begin_moved (Int z) i agree = refl
  begin_moved (Array at own) i agree = refl
  begin_moved (View at own) i agree = refl
  begin_moved (WholeList at) i agree = refl
  begin_moved (Ref at) i agree = refl
  begin_moved (Map at) i agree = refl
  begin_moved (Stream at own) i agree = stream_begun index at own c d agree i

  pub write_moved : (b : Bind) (i v : ℤ) → IsBegun b index i → AgreeAt index b c d → AlikeResults (Moved index b c d) (write_word i v b c) (write_word i v b d)
  write_moved (Int z) i v begun agree = refl
  write_moved (Array at own) i v begun agree = refl
  write_moved (View at own) i v begun agree = refl
  write_moved (WholeList at) i v begun agree = refl
  write_moved (Ref at) i v begun agree = refl
  write_moved (Map at) i v begun agree = refl
  write_moved (Stream at own) i v begun agree = stream_written index at own c d agree i v begun
