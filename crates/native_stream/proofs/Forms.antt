-- Each call's word form is the word form of its effect.
use Rattle.std.proofs.Common.{◌≡◌, ℕ, ◌<◌, ℤ, List, Option, refl, sym, subst}
use Rattle.job_base.specs.Forms.{Reaches}
use Rattle.frame_ast.specs.Contents.{Contents, Entries}
use Rattle.native_stream.specs.declared.StreamAt.{StreamAt}
use Rattle.native_stream.specs.Layout.{HoldsEntries, StandsFor, IsWordForm}
use Rattle.native_stream.specs.Words.{items_words, at_words, begin_words, write_words, clear_words}
use Rattle.native_stream.specs.Effects.{begin_effect, write_effect, items_effect, at_effect, clear_effect}
use Rattle.native_stream.proofs.Effects.{items_law, at_law, begin_law, write_law, clear_law}
use Rattle.native_stream.proofs.Reach.{Alike, items_reads, at_reads, begin_outside, begin_reads, write_outside, write_reads, clear_outside, clear_reads}

-- what holds of the entries of a stream holds of its contents
of_entries : {A : Type 0} (at : StreamAt) (form : (ℕ → ℤ) → A × (ℕ → ℤ)) (effect : Contents → A × Contents)
    → ((cells : ℕ → ℤ) (es : List (Option (List ℤ))) → HoldsEntries at cells es → Reaches (StandsFor at) (form cells) (effect (Entries at.room es)))
    → (cells : ℕ → ℤ) (c : Contents) → StandsFor at cells c → Reaches (StandsFor at) (form cells) (effect c)
of_entries at form effect law cells c s = subst (λ c. Reaches (StandsFor at) (form cells) (effect c)) (sym s.1) (law cells s.0 s.2)

-- a form that only reads
reading : {A : Type 0} (at : StreamAt) (form : (ℕ → ℤ) → A) (effect : Contents → A)
    → ((cells : ℕ → ℤ) (es : List (Option (List ℤ))) → HoldsEntries at cells es → form cells ≡ effect (Entries at.room es))
    → ((a b : ℕ → ℤ) → Alike at a b → form b ≡ form a) → IsWordForm at (λ cells. (form cells, cells)) (λ c. (effect c, c))
reading at form effect law same = record {
  stands = of_entries at (λ cells. (form cells, cells)) (λ c. (effect c, c)) (λ cells es s. (law cells es s, (es, refl, s)));
  changes = λ cells w out. refl;
  answer = λ a b h. same a b h;
  reads = λ a b h. h;
}

module _ (at : StreamAt) where
  pub items_form : (i : ℤ) → IsWordForm at (λ cells. (items_words at cells i, cells)) (items_effect i)
  items_form i = reading at (λ cells. items_words at cells i) (λ c. (items_effect i c).0) (λ cells es s. items_law at cells es s i)
      (λ a b h. items_reads at a b h i)

  pub at_form : (i k : ℤ) → IsWordForm at (λ cells. (at_words at cells i k, cells)) (at_effect i k)
  at_form i k = reading at (λ cells. at_words at cells i k) (λ c. (at_effect i k c).0) (λ cells es s. at_law at cells es s i k) (λ a b h. at_reads at a b h i k)

  pub begin_form : (i : ℤ) → IsWordForm at (λ cells. begin_words at cells i) (begin_effect i)
  begin_form i = record {
    stands = of_entries at (λ cells. begin_words at cells i) (begin_effect i) (λ cells es s. begin_law at cells es s i);
    changes = λ cells. begin_outside at cells i;
    answer = λ a b h. (begin_reads at a b h i).0;
    reads = λ a b h. (begin_reads at a b h i).1;
  }

  pub write_form : (k : ℕ) (v : ℤ) → k < at.count → IsWordForm at (λ cells. write_words at cells k v) (write_effect k v)
  write_form k v hk = record {
    stands = of_entries at (λ cells. write_words at cells k v) (write_effect k v) (λ cells es s. write_law at cells es s k hk v);
    changes = λ cells. write_outside at cells k v hk;
    answer = λ a b h. (write_reads at a b h k v hk).0;
    reads = λ a b h. (write_reads at a b h k v hk).1;
  }

  pub clear_form : IsWordForm at (λ cells. (tt, clear_words at cells)) clear_effect
  clear_form = record {
    stands = of_entries at (λ cells. (tt, clear_words at cells)) clear_effect (λ cells es s. clear_law at cells es s);
    changes = λ cells. clear_outside at cells;
    answer = λ a b h. refl;
    reads = λ a b h. clear_reads at a b h;
  }
