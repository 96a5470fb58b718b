-- What the guarded kernel does to words.
use Rattle.std.proofs.Common.{◌≡◌, ℕ, ◌+◌, ◌<◌, true, false, ℤ, pos, List, [], ◌∷◌, ◌++◌, length, Result, Ok, Err, sym, ap, subst, ◌∙◌, arith}
use Rattle.std.specs.Prelude.{int_lt, if◌then◌else◌}
use Rattle.std.proofs.lemmas.List.{get_or_append_left}
use Rattle.std.proofs.Math.Seq.{get_or-append_seam}
use Rattle.frame_ast.specs.declared.kernel.Kernel.{Kernel}
use Rattle.frame_ast.specs.Checked.{IsChecked}
use Rattle.std.proofs.lemmas.Bool.{lt-ltb}
use Rattle.job_base.specs.declared.Trap.{Trap}
use Rattle.job_base.specs.declared.Trap.TheVariants.{Range}
use Rattle.frame_ast.specs.Contents.{then_value, place_in}
use Rattle.frame_ast.specs.Arguments.{if_owned}
use Rattle.frame_ast.specs.Kernels.{Goes, fresh, execution, store_after, trap_after}
use Rattle.frame_ast.specs.JobRuns.{full_steps, deferred_steps}
use Rattle.native_array.specs.declared.ArrayAt.{ArrayAt}
use Rattle.kernel_exec.specs.declared.binds.Bind.{Bind}
use Rattle.kernel_exec.specs.declared.binds.Bind.TheVariants.{Array}
use Rattle.kernel_exec.specs.Binds.{bind_at, no_bind}
use Rattle.kernel_exec.specs.Words.{words, value_word, set_value_word, length_word, get_word, put_word, add_word, remove_at_word, has_word, add_pair_word, remove_key_word, clear_word, count_word, item_word, begin_word, write_word}
use Rattle.kernel_exec.specs.Laws.{at_index}
use Rattle.job_defer.specs.Guarded.{IsGuarded, GuardsWords, DoesNothing}
use Rattle.job_defer.proofs.Runs.{one_step_more, runs_below, stays_above}
use Rattle.job_defer.proofs.Unseen.{AgreeBelow, execution_same}

module _ (binds : List Bind) (b : Bind) (index : ℕ) where
  is_there : (x : ℕ) → x < length binds → bind_at (binds ++ b ∷ []) x ≡ bind_at binds x
  is_there x lt = get_or_append_left binds (b ∷ []) no_bind x lt

  pub words_agree : AgreeBelow (length binds) (words (binds ++ b ∷ []) index) (words binds index)
  words_agree = record {
    value = λ x lt. ap (λ a cells. value_word a cells) (is_there x lt);
    set_value = λ x lt. ap (λ a v cells. set_value_word v a cells) (is_there x lt);
    len = λ x lt. ap (λ a cells. length_word a cells) (is_there x lt);
    get = λ x lt. ap (λ a i cells. get_word index i a cells) (is_there x lt);
    put = λ x lt. ap (λ a i v cells. put_word index i v a cells) (is_there x lt);
    add = λ x lt. ap (λ a v cells. add_word v a cells) (is_there x lt);
    remove_at = λ x lt. ap (λ a i cells. remove_at_word i a cells) (is_there x lt);
    has = λ x lt. ap (λ a k cells. has_word k a cells) (is_there x lt);
    add_pair = λ x lt. ap (λ a k v cells. add_pair_word k v a cells) (is_there x lt);
    remove_key = λ x lt. ap (λ a k cells. remove_key_word k a cells) (is_there x lt);
    clear = λ x lt. ap (λ a cells. clear_word a cells) (is_there x lt);
    count = λ x lt. ap (λ a i cells. count_word i a cells) (is_there x lt);
    item = λ x lt. ap (λ a i k cells. item_word i k a cells) (is_there x lt);
    begin = λ x lt. ap (λ a i cells. begin_word index i a cells) (is_there x lt);
    write = λ x lt. ap (λ a i v cells. write_word i v a cells) (is_there x lt);
  }

module _ (old new : Kernel) (C : IsChecked old) (G : IsGuarded old new) (binds : List Bind) (at : ArrayAt) (index : ℕ)
    (cells : ℕ → ℤ) (count : length binds ≡ length old.params.items) (some : 0 < at.len) where
  abbrev all : List Bind
  all = binds ++ Array at 0 ∷ []

  last : bind_at all (length old.params.items) ≡ Array at 0
  last = ap (λ n. bind_at all n) (sym count) ∙ get_or-append_seam binds (Array at 0) [] no_bind

  first : (place : Result ℕ Trap) → place ≡ Ok 0
      → then_value place (λ k. Ok (cells (at.start + k))) ≡ Ok (cells at.start)
  first place e = ap (λ r. then_value r (λ k. Ok (cells (at.start + k)))) e
      ∙ ap (λ w. Ok (cells w)) (let z : at.start + 0 ≡ at.start = omega arith in z)

  got : get_word index (pos 0) (bind_at all (length old.params.items)) cells ≡ Ok (cells at.start)
  got = ap (λ b. get_word index (pos 0) b cells) last
      ∙ ap (λ r. if_owned 0 index (pos 0) r)
      (first (place_in at.len (pos 0)) (ap (λ b. if b then Ok 0 else Err Range) (lt-ltb 0 at.len some)))

  same : execution (words all index) old.body.statements.items deferred_steps index cells
      ≡ at_index old binds deferred_steps index cells
  same = execution_same (words all index) (words binds index) old.params.items
      (subst (λ n. AgreeBelow n (words all index) (words binds index)) count (words_agree binds (Array at 0) index))
      old.parallel old.locals index old.body.statements.items C.fits deferred_steps cells

  pub below : int_lt (pos index) (cells at.start) ≡ true
      → at_index new all full_steps index cells ≡ at_index old binds deferred_steps index cells
  below less =
      ap (λ n. at_index new all n index cells) one_step_more
      ∙ runs_below (words all index) index
      (length old.params.items) old.body.statements.items new.body.statements.items G.body deferred_steps cells
      (cells at.start) got less
      ∙ same

  pub above : int_lt (pos index) (cells at.start) ≡ false
      → at_index new all full_steps index cells ≡ Goes (fresh deferred_steps cells)
  above past =
      ap (λ n. at_index new all n index cells) one_step_more
      ∙ stays_above (words all index) index
      (length old.params.items) old.body.statements.items new.body.statements.items G.body deferred_steps cells
      (cells at.start) got past

  pub nothing : int_lt (pos index) (cells at.start) ≡ false
      → DoesNothing cells (at_index new all full_steps index cells)
  unfolding fresh
  nothing past = record { trap = ap trap_after (above past); store = ap store_after (above past) }

pub guards_words : (old new : Kernel) → IsChecked old → IsGuarded old new → GuardsWords old new
guards_words old new C G = record {
  below = λ binds at index cells count some less. let e = below old new C G binds at index cells count some less in
      record { trap = ap trap_after e; store = ap store_after e };
  above = λ binds at index cells count some past. nothing old new C G binds at index cells count some past;
}
