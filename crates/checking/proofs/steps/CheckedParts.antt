-- What the check gives of an expression, a condition or a call, from what it gives of the parts.
use Prim.Native.Nat.{ℕ}
use mathlib.Core.Path.{◌≡◌, refl, sym, ap, ap₂, ◌∙◌}
use mathlib.Core.Bool.{Bool}
use mathlib.Core.List.{List, [], ◌++◌, append_assoc}
use mathlib.Core.Option.{Option, some}
use Rattle.std.specs.Prelude as code
use Rattle.values.specs.declared.Kind.{Kind}
use Rattle.values.specs.declared.Kind.TheVariants.{Wholes}
use Rattle.values.specs.definitions.Fitting.{number_kind, operand_fits, operands_fit, kinds_fit}
use Rattle.std.specs.Prelude.{Some, None}
use Rattle.checking.specs.declared.expressions.Kinded.{Kinded}
use Rattle.checking.specs.declared.faults.Faults.{Faults}
use Rattle.checking.specs.declared.conditions.Part.{Part}
use Rattle.checking.specs.definitions.Faults.{Fault, fault_unless, earliest}
use Rattle.checking.specs.inner_contracts.FoundFaults.{Found, found_as, merged}
use Rattle.checking.specs.inner_contracts.Kinds.{kind_as, real_of, number_of, operated_of}
use Rattle.checking.specs.definitions.NameFaults.{expression_name_faults}
use Rattle.checking.specs.definitions.KindFaults.{kind_of, expression_kind_faults, matched_kind_faults}
use Rattle.checking.specs.inner_contracts.RuleParts.{LiteralChecked, RealChecked, NegatedChecked, AppliedChecked, NothingFound, Matched, After, Joined}
use Rattle.checking.proofs.laws.FaultLaws.{earliest_append}
use Rattle.checking.proofs.laws.KindLaws.{real_fits, real_bound, number_bound, operated_bound}

-- ---- faults, one after the other

pub found_both : {a b r : Option Fault} (xs ys : List Fault) → r ≡ merged a b → a ≡ earliest xs → b ≡ earliest ys → r ≡ earliest (xs ++ ys)
found_both xs ys m p q = m ∙ rw (p, q) (sym (earliest_append xs ys))

-- a fault unless a test passes that is known otherwise
unless_same : {here : Option Fault} {fit : Bool} (t : Bool) (offset : ℕ) → here ≡ earliest (fault_unless fit 18 offset) → fit ≡ t
    → here ≡ earliest (fault_unless t 18 offset)
unless_same t offset u e = rw e at u

pub found_nothing : found_as None ≡ earliest []
unfolding found_as earliest
found_nothing = refl

-- ---- expressions

pub literal_checked : {next : ℕ} {kind : code.Option Kind}
    → LiteralChecked next kind (record { next = next; kind = kind; faults = record { names = None; kinds = None } })
unfolding kind_of expression_name_faults expression_kind_faults
literal_checked = record { next_is = refl; checked = λ s l e. record { kind = e; names = found_nothing; kinds = found_nothing } }

-- an expression under `real` or unary `-`: its operand fits or not, and what is given then
module _ (offset : ℕ) {x : Kinded} {fit : Bool} {kind : code.Option Kind} {here : Option Fault} {kinds : Found}
    (u : here ≡ earliest (fault_unless fit 18 offset)) (m : found_as kinds ≡ merged here (found_as x.faults.kinds)) where
  pub made_real : {next : ℕ} → fit ≡ kinds_fit (kind_as x.kind) (some Wholes) → kind_as kind ≡ real_of (kind_as x.kind)
      → RealChecked offset x next (record { next = next; kind = kind; faults = record { names = x.faults.names; kinds = kinds } })
  unfolding kind_of expression_name_faults expression_kind_faults
  made_real f k = record {
    next_is = refl;
    checked = λ s a h. record {
      kind = k ∙ ap real_of h.kind ∙ real_bound (kind_of s a);
      names = h.names;
      kinds = found_both _ (expression_kind_faults s a) m
          (unless_same _ offset u (f ∙ ap (λ j. kinds_fit j (some Wholes)) h.kind ∙ real_fits (kind_of s a))) h.kinds;
    };
  }

  pub negated : fit ≡ operand_fits number_kind (kind_as x.kind) → kind_as kind ≡ number_of (kind_as x.kind)
      → NegatedChecked offset x (record { next = x.next; kind = kind; faults = record { names = x.faults.names; kinds = kinds } })
  unfolding kind_of expression_name_faults expression_kind_faults
  negated f k = record {
    next_is = refl;
    checked = λ s a h. record {
      kind = k ∙ ap number_of h.kind ∙ number_bound (kind_of s a);
      names = h.names;
      kinds = found_both _ (expression_kind_faults s a) m (unless_same _ offset u (f ∙ ap (operand_fits number_kind) h.kind)) h.kinds;
    };
  }

pub applied : (offset : ℕ) {x y : Kinded} {fit : Bool} {kind : code.Option Kind} {here inside : Option Fault} {names kinds : Found}
    → fit ≡ operands_fit (kind_as x.kind) (kind_as y.kind) → here ≡ earliest (fault_unless fit 18 offset)
    → kind_as kind ≡ operated_of (kind_as x.kind) (kind_as y.kind)
    → found_as names ≡ merged (found_as x.faults.names) (found_as y.faults.names)
    → inside ≡ merged (found_as x.faults.kinds) (found_as y.faults.kinds) → found_as kinds ≡ merged here inside
    → AppliedChecked offset x y (record { next = y.next; kind = kind; faults = record { names = names; kinds = kinds } })
unfolding kind_of expression_name_faults expression_kind_faults
applied offset f u o n i m = record {
  next_is = refl;
  checked = λ s p a b g h. record {
    kind = o ∙ ap₂ operated_of g.kind h.kind ∙ operated_bound (kind_of s a) (kind_of s b);
    names = found_both (expression_name_faults s a) (expression_name_faults s b) n g.names h.names;
    kinds = found_both _ (expression_kind_faults s a ++ expression_kind_faults s b) m (unless_same _ offset u (f ∙ ap₂ operands_fit g.kind h.kind))
        (found_both (expression_kind_faults s a) (expression_kind_faults s b) i g.kinds h.kinds)
        ∙ ap earliest (sym (append_assoc (fault_unless (operands_fit (kind_of s a) (kind_of s b)) 18 offset) (expression_kind_faults s a)
        (expression_kind_faults s b)));
  };
}

-- ---- parts of a rule

pub nothing_found : {next : ℕ} → NothingFound next (record { next = next; faults = record { names = None; kinds = None } })
nothing_found = record { next_is = refl; part = record { names_found = found_nothing; kinds_found = found_nothing } }

pub matched : {kind : code.Option Kind} {offset : ℕ} {e : Kinded} {fit : Bool} {here : Option Fault} {kinds : Found}
    → fit ≡ kinds_fit (kind_as kind) (kind_as e.kind)
    → here ≡ earliest (fault_unless fit 18 offset) → found_as kinds ≡ merged here (found_as e.faults.kinds)
    → Matched kind offset e (record { next = e.next; faults = record { names = e.faults.names; kinds = kinds } })
unfolding matched_kind_faults
matched {offset = offset} f u m = record {
  next_is = refl;
  part = λ s k a p h.
      record {
        names_found = h.names;
        kinds_found = found_both _ (expression_kind_faults s a) m (unless_same _ offset u (f ∙ ap₂ kinds_fit p h.kind)) h.kinds;
      };
}

pub after : {first : Found} {p : Part} {names : Found} → found_as names ≡ merged (found_as first) (found_as p.faults.names)
    → After first p (record { next = p.next; faults = record { names = names; kinds = p.faults.kinds } })
after m = record {
  next_is = refl;
  part = λ zs xs ks e h. record { names_found = found_both zs xs m e h.names_found; kinds_found = h.kinds_found };
}

pub joined : {p q : Part} {all : Faults} → found_as all.names ≡ merged (found_as p.faults.names) (found_as q.faults.names)
    → found_as all.kinds ≡ merged (found_as p.faults.kinds) (found_as q.faults.kinds) → Joined p q (record { next = q.next; faults = all })
joined m n = record {
  next_is = refl;
  part = λ xs ks ys ls g h. record {
    names_found = found_both xs ys m g.names_found h.names_found;
    kinds_found = found_both ks ls n g.kinds_found h.kinds_found;
  };
}
