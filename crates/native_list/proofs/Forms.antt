-- Each call's word form is the word form of its effect.
use Rattle.std.proofs.Common.{◌≡◌, ℕ, ℤ, List, refl, sym, subst}
use Rattle.job_base.specs.Forms.{Reaches}
use Rattle.frame_ast.specs.Contents.{Contents, Items}
use Rattle.native_array.specs.Effects.{get_effect, set_effect}
use Rattle.native_list.specs.declared.ListAt.{ListAt}
use Rattle.native_list.specs.Layout.{HoldsItems, StandsFor, IsWordForm}
use Rattle.native_list.specs.Words.{get_words, set_words, add_words, remove_words}
use Rattle.native_list.specs.Effects.{add_effect, remove_effect}
use Rattle.native_list.proofs.Effects.{get_law, set_law, add_law, remove_law}
use Rattle.native_list.proofs.Reach.{Alike, get_reads, set_outside, set_reads, add_outside, add_reads, remove_outside, remove_reads}

-- what holds of the items of a list holds of its contents
of_items : {A : Type 0} (at : ListAt) (form : (ℕ → ℤ) → A × (ℕ → ℤ)) (effect : Contents → A × Contents)
    → ((cells : ℕ → ℤ) (xs : List ℤ) → HoldsItems at cells xs → Reaches (StandsFor at) (form cells) (effect (Items at.cap xs)))
    → (cells : ℕ → ℤ) (c : Contents) → StandsFor at cells c → Reaches (StandsFor at) (form cells) (effect c)
of_items at form effect law cells c s = subst (λ c. Reaches (StandsFor at) (form cells) (effect c)) (sym s.1) (law cells s.0 s.2)

-- a form that only reads
reading : {A : Type 0} (at : ListAt) (form : (ℕ → ℤ) → A) (effect : Contents → A)
    → ((cells : ℕ → ℤ) (xs : List ℤ) → HoldsItems at cells xs → form cells ≡ effect (Items at.cap xs))
    → ((a b : ℕ → ℤ) → Alike at a b → form b ≡ form a) → IsWordForm at (λ cells. (form cells, cells)) (λ c. (effect c, c))
reading at form effect law same = record {
  stands = of_items at (λ cells. (form cells, cells)) (λ c. (effect c, c)) (λ cells xs s. (law cells xs s, (xs, refl, s)));
  changes = λ cells w out. refl;
  answer = λ a b h. same a b h;
  reads = λ a b h. h;
}

module _ (at : ListAt) where
  pub get_form : (i : ℤ) → IsWordForm at (λ cells. (get_words at cells i, cells)) (get_effect i)
  get_form i = reading at (λ cells. get_words at cells i) (λ c. (get_effect i c).0) (λ cells xs s. get_law at cells xs s i) (λ a b h. get_reads at a b h i)

  pub set_form : (i v : ℤ) → IsWordForm at (λ cells. set_words at cells i v) (set_effect i v)
  set_form i v = record {
    stands = of_items at (λ cells. set_words at cells i v) (set_effect i v) (λ cells xs s. set_law at cells xs s i v);
    changes = λ cells. set_outside at cells i v;
    answer = λ a b h. (set_reads at a b h i v).0;
    reads = λ a b h. (set_reads at a b h i v).1;
  }

  pub add_form : (v : ℤ) → IsWordForm at (λ cells. add_words at cells v) (add_effect v)
  add_form v = record {
    stands = of_items at (λ cells. add_words at cells v) (add_effect v) (λ cells xs s. add_law at cells xs s v);
    changes = λ cells. add_outside at cells v;
    answer = λ a b h. (add_reads at a b h v).0;
    reads = λ a b h. (add_reads at a b h v).1;
  }

  pub remove_form : (i : ℤ) → IsWordForm at (λ cells. remove_words at cells i) (remove_effect i)
  remove_form i = record {
    stands = of_items at (λ cells. remove_words at cells i) (remove_effect i) (λ cells xs s. remove_law at cells xs s i);
    changes = λ cells. remove_outside at cells i;
    answer = λ a b h. (remove_reads at a b h i).0;
    reads = λ a b h. (remove_reads at a b h i).1;
  }
