-- Which fault of a grammatical file is reported: the priorities come before the counts, these before the names, and these before the kinds.
use Prim.Native.Nat.{ℕ, ◌≤◌}
use native.Mathlib.Omega.{arith}
use mathlib.Core.Path.{◌≡◌, refl, sym, ap, ap₂, ◌∙◌}
use mathlib.Core.Bool.{Bool, true}
use mathlib.Core.List.{List, []}
use mathlib.Core.Option.{Option, none, some}
use lib.ListN.{length}
use borrow.Author.Tests.{le-leb}
use Rattle.text.specs.definitions.Syntax.{Member, Interface, Entity, Rule, File}
use Rattle.text.proofs.laws.ListLaws.{none_some, flatMap_empty, number_member}
use Rattle.std.specs.Prelude.{Some, None}
use Rattle.std.specs.Option.{option_or}
use Rattle.checking.specs.declared.faults.Faults.{Faults}
use Rattle.checking.specs.definitions.Faults.{Fault, earliest}
use Rattle.checking.specs.inner_contracts.FoundFaults.{Found, found_as}
use Rattle.checking.specs.definitions.PriorityFaults.{priority_faults}
use Rattle.checking.specs.definitions.CountFaults.{interface_count_faults, count_faults}
use Rattle.checking.specs.definitions.NameFaults.{name_faults}
use Rattle.checking.specs.definitions.KindFaults.{kind_faults}
use Rattle.checking.specs.definitions.Verdict.{Verdict, accepted, refused_by, file_verdict}
use Rattle.checking.specs.inner_contracts.CountChecked.{CountChecked}
use Rattle.checking.specs.inner_contracts.PriorityScan.{PriorityChecked}
use Rattle.checking.specs.inner_contracts.Directory.{DIRECTORY, DirectoryOf, Bench}
use Rattle.checking.specs.inner_contracts.DirectoryReads.{Few}
use Rattle.checking.specs.inner_contracts.DirectoryItems.{DirectoryBuilt}
use Rattle.checking.specs.inner_contracts.DeclarationWalk.{EntitiesLinked}
use Rattle.checking.specs.inner_contracts.FileWalk.{FileFound, or_else, Columned, Judged}
use Rattle.checking.proofs.laws.AcceptedLaws.{within, counted}
use Rattle.checking.proofs.laws.FaultLaws.{earliest_none}
use Rattle.checking.proofs.steps.DirectoryParts.{columns_classes, columns_offsets}

-- ---- a file within the counts

module _ (f : File) (h : count_faults f ≡ []) where
  pub counted_few : Few f
  unfolding interface_count_faults
  counted_few = record {
    interfaces = within 16 (λ (i : Interface). i.at) f.interfaces (counted f h).0;
    members = λ k i e.
        within 12 (λ (m : Member). m.at) i.members (flatMap_empty interface_count_faults f.interfaces (counted f h).1 (number_member f.interfaces k e));
    entities = within 32 (λ (e : Entity). e.at) f.entities (counted f h).2;
  }

  pub counted_rules : length f.rules ≤ 64
  counted_rules = within 64 (λ (r : Rule). r.at) f.rules (counted f h).3

-- ---- the first fault

pub refused_first : (a b : Option Fault) (v : Verdict) → refused_by (or_else a b) v ≡ refused_by a (refused_by b v)
unfolding refused_by or_else
refused_first none b v = refl
refused_first (some f) b v = refl

first_none : (a b : Option Fault) → or_else a b ≡ none → a ≡ none
unfolding or_else
first_none none b h = refl
first_none (some f) b h = absurd (none_some (sym h))

second_none : (a b : Option Fault) → or_else a b ≡ none → b ≡ none
unfolding or_else
second_none none b h = h
second_none (some f) b h = absurd (none_some (sym h))

-- the first of four
first_of : (p c n k : Found) → found_as (option_or (option_or (option_or p c) n) k) ≡ or_else (found_as p) (or_else (found_as c) (or_else (found_as n) (found_as k)))
unfolding found_as or_else
first_of None None None k = refl
first_of None None (Some n) k = refl
first_of None (Some c) n k = refl
first_of (Some p) c n k = refl

pub first_found : (p c n k : Found) {two three all : Found} → two ≡ option_or p c → three ≡ option_or two n → all ≡ option_or three k
    → found_as all ≡ or_else (found_as p) (or_else (found_as c) (or_else (found_as n) (found_as k)))
first_found p c n k e f g = rw (g, f, e) (first_of p c n k)

-- ---- the steps

module _ {text classes offsets lengths values d built e : List ℕ} {priorities counts : Found} {later after first : Option Fault} {done : Bool} {found : Faults}
    (z : PriorityChecked classes offsets values priorities) (c : CountChecked classes offsets counts)
    (b : DirectoryBuilt classes d built done) (size : length built ≡ length d) (l : EntitiesLinked text offsets lengths built e)
    (g : FileFound text classes offsets lengths e found) (o : later ≡ or_else (found_as found.names) (found_as found.kinds))
    (a : after ≡ or_else (found_as counts) later) (y : first ≡ or_else (found_as priorities) after) where
  module _ (w : Columned text classes offsets lengths values d) where
    priorities_found : found_as priorities ≡ earliest (priority_faults w.file)
    priorities_found = z.found w.tokens w.file (columns_classes w.columns) (columns_offsets w.columns) w.valued w.reads

    counts_found : found_as counts ≡ earliest (count_faults w.file)
    counts_found = c.found w.tokens w.file (columns_classes w.columns) (columns_offsets w.columns) w.reads

    module _ (none_counted : count_faults w.file ≡ []) where
      built_whole : done ≡ true
      built_whole = b.answers ∙ rw (le-leb DIRECTORY (length d) w.room, le-leb (length classes) 65535 w.numbers)

      made : DirectoryOf w.file w.tokens e
      made =
          l.links classes w.tokens w.file (let z = w.room in omega arith) w.columns
          (b.items built_whole w.tokens w.file (columns_classes w.columns) w.reads none_counted) (counted_few w.file none_counted)
          (counted_rules w.file none_counted)

      abbrev bench : Bench text classes offsets lengths e
      bench = record { file = w.file; tokens = w.tokens; columns = w.columns; directory = made }

      names_found : found_as found.names ≡ earliest (name_faults w.file)
      names_found = g.names bench (counted_few w.file none_counted) (counted_rules w.file none_counted)

      kinds_found : found_as found.kinds ≡ earliest (kind_faults w.file)
      kinds_found = g.kinds bench (counted_few w.file none_counted) (counted_rules w.file none_counted)

      later_verdict : refused_by later (accepted w.file)
          ≡ refused_by (earliest (name_faults w.file)) (refused_by (earliest (kind_faults w.file)) (accepted w.file))
      later_verdict =
          ap (λ (x : Option Fault). refused_by x (accepted w.file)) (o ∙ ap₂ or_else names_found kinds_found)
          ∙ refused_first (earliest (name_faults w.file)) (earliest (kind_faults w.file)) (accepted w.file)

    after_verdict : refused_by after (accepted w.file) ≡ refused_by (earliest (count_faults w.file))
        (refused_by (earliest (name_faults w.file)) (refused_by (earliest (kind_faults w.file)) (accepted w.file)))
    unfolding refused_by
    after_verdict =
        ap (λ (x : Option Fault). refused_by x (accepted w.file)) a
        ∙ refused_first (found_as counts) later (accepted w.file)
        ∙ ap (λ (x : Option Fault). refused_by x (refused_by later (accepted w.file))) counts_found
        ∙ go (earliest (count_faults w.file)) (earliest_none (count_faults w.file))
      where
        go : (x : Option Fault) → (x ≡ none → count_faults w.file ≡ []) → refused_by x (refused_by later (accepted w.file))
            ≡ refused_by x (refused_by (earliest (name_faults w.file)) (refused_by (earliest (kind_faults w.file)) (accepted w.file)))
        go none k = later_verdict (k refl)
        go (some y) k = refl

    judged_verdict : refused_by first (accepted w.file) ≡ file_verdict w.file
    unfolding file_verdict
    judged_verdict =
        ap (λ (x : Option Fault). refused_by x (accepted w.file)) y
        ∙ refused_first (found_as priorities) after (accepted w.file)
        ∙ ap₂ refused_by priorities_found after_verdict

    faultless_counts : first ≡ none → count_faults w.file ≡ []
    faultless_counts n =
        let none_after = second_none (found_as priorities) after (sym y ∙ n) in
        earliest_none (count_faults w.file) (sym counts_found ∙ first_none (found_as counts) later (sym a ∙ none_after))

  pub judged_told : {r : Found} → found_as r ≡ first → Judged text classes offsets lengths values d e r
  judged_told q = record {
    verdict = λ w. ap (λ (x : Option Fault). refused_by x (accepted w.file)) q ∙ judged_verdict w;
    directory = λ w n. made w (faultless_counts w (sym q ∙ n));
    few = λ w n. counted_few w.file (faultless_counts w (sym q ∙ n));
    few_rules = λ w n. counted_rules w.file (faultless_counts w (sym q ∙ n));
  }
