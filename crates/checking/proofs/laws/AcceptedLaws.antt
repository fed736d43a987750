-- What acceptance says: an accepted file has no fault, and keeps the counts; an accepted text is parsed to its file.
use Prim.Native.Nat.{ℕ, ◌≤◌}
use native.Mathlib.Omega.{arith}
use mathlib.Core.Path.{◌≡◌, refl, ap, ◌∙◌}
use mathlib.Core.Bool.{Bool, true, false}
use mathlib.Core.List.{List, [], ◌∷◌, map, flat_map, Memᴰ, cons≢nil}
use mathlib.Core.Option.{Option, none, some}
use lib.Dec.{leb}
use lib.ListN.{length, length-map, drop, get_elem?}
use borrow.Author.Tests.{leb-true}
use Rattle.text.specs.definitions.Tokens.{Token, Lexing, tokens, no_token_at, tokens_of}
use Rattle.text.specs.definitions.Syntax.{Member, Interface, Entity, Priority, Rule, priority_given, priority_of, File}
use Rattle.text.specs.definitions.Parse.{ParseVerdict, grammatical, ungrammatical_at, parse}
use Rattle.checking.specs.definitions.Faults.{Fault, fault, fault_unless, earliest}
use Rattle.checking.specs.definitions.Scope.{Indexed, look_up, item_of, interface_named, interface_of_entity, interface_of}
use Rattle.checking.specs.definitions.PriorityFaults.{MOST_PRIORITY, number_faults, given_faults, priority_faults}
use Rattle.checking.specs.definitions.CountFaults.{beyond, interface_count_faults, rule_count_faults, count_faults}
use Rattle.checking.specs.definitions.NameFaults.{name_faults}
use Rattle.checking.specs.definitions.KindFaults.{kind_faults}
use Rattle.checking.specs.definitions.Verdict.{
  Verdict,
  accepted,
  refused_at,
  refused_by,
  file_verdict,
  parsing_verdict,
  lexing_verdict,
  verdict,
  MOST_BYTES,
}
use Rattle.checking.specs.definitions.Admitted.{Faultless}
use Rattle.checking.proofs.laws.WithinCounts.{WithinCounts}
use Rattle.text.proofs.laws.ListLaws.{some_injective, none_some, five_empty, flatMap_empty, mapped_empty, drop_empty, number_member}
use Rattle.checking.proofs.laws.LookUpLaws.{found_member}

refused_accepted : {c p : ℕ} {f : File} → refused_at c p ≡ accepted f → ⊥
refused_accepted h = let z : ◌≡◌ {A = ℕ} 0 1 = cc in omega arith

no_refusal : (fs : List Fault) (v : Verdict) {f : File} → refused_by (earliest fs) v ≡ accepted f → (fs ≡ []) × (v ≡ accepted f)
unfolding refused_by earliest
no_refusal [] v h = (refl, h)
no_refusal (x ∷ fs) v h = absurd (refused_accepted h)

-- ---- a file

verdict_parts : (g : File) {f : File} → file_verdict g ≡ accepted f → Faultless g × (accepted g ≡ accepted f)
unfolding file_verdict
verdict_parts g h =
    let (n, h') = no_refusal (priority_faults g) _ h in
    let (a, i) = no_refusal (count_faults g) _ h' in
    let (b, j) = no_refusal (name_faults g) _ i in
    let (c, k) = no_refusal (kind_faults g) _ j in
    (record { priorities = n; counts = a; names = b; kinds = c }, k)

pub accepted_faultless : (f : File) → file_verdict f ≡ accepted f → Faultless f
accepted_faultless f h = (verdict_parts f h).0

-- ---- a text

pub record ParsedText (text : List ℕ) (f : File) : Type 0 where
  pub read : List Token
  pub lexed : tokens_of text ≡ tokens read
  pub parsed : parse (length text) read ≡ grammatical f

pub accepted_parsed : (text : List ℕ) (f : File) → verdict text ≡ accepted f → ParsedText text f
unfolding verdict
accepted_parsed text f h = by_length (leb (length text) MOST_BYTES) h
  where
    by_file : (ts : List Token) (p : ParseVerdict) → parse (length text) ts ≡ p → tokens_of text ≡ tokens ts → parsing_verdict p ≡ accepted f → ParsedText text f
    by_file ts (ungrammatical_at a) q l h = absurd (refused_accepted h)
    by_file ts (grammatical g) q l h =
        let e : g ≡ f = let k = (verdict_parts g h).1 in cc in
        record { read = ts; lexed = l; parsed = q ∙ ap grammatical e }

    by_tokens : (l : Lexing) → tokens_of text ≡ l → lexing_verdict (length text) l ≡ accepted f → ParsedText text f
    by_tokens (no_token_at p) l h = absurd (refused_accepted h)
    by_tokens (tokens ts) l h = by_file ts (parse (length text) ts) refl l h

    by_length : (b : Bool) → (elim b [ true ↦ lexing_verdict (length text) (tokens_of text) | false ↦ refused_at 11 MOST_BYTES ]) ≡ accepted f
        → ParsedText text f
    by_length true h = by_tokens (tokens_of text) refl h
    by_length false h = absurd (refused_accepted h)

-- ---- counts

pub within : {A : Type 0} (most : ℕ) (place : A → ℕ) (xs : List A) → beyond most (map place xs) ≡ [] → length xs ≤ most
unfolding beyond
within most place xs h =
    let l = drop_empty most (map place xs) (mapped_empty (fault 14) (drop most (map place xs)) h) in
    rw length-map at l

pub counted : (f : File) → count_faults f ≡ []
    → (beyond 16 (map (λ (i : Interface). i.at) f.interfaces) ≡ []) × (flat_map interface_count_faults f.interfaces ≡ [])
    × (beyond 32 (map (λ (e : Entity). e.at) f.entities) ≡ []) × (beyond 64 (map (λ (r : Rule). r.at) f.rules) ≡ [])
    × (flat_map rule_count_faults f.rules ≡ [])
unfolding count_faults
counted f h = five_empty h

pub named_interface : (f : File) (n : List ℕ) {i : Interface} → interface_named f n ≡ some i → Memᴰ i f.interfaces
unfolding interface_named
named_interface f n {i} h = go (look_up (λ (i : Interface). i.name) n f.interfaces) (λ r e. found_member (λ (i : Interface). i.name) n f.interfaces e) h
  where
    go : (o : Option (Indexed Interface)) → ((r : Indexed Interface) → o ≡ some r → Memᴰ r.item f.interfaces) → item_of o ≡ some i
        → Memᴰ i f.interfaces
    go none k e = absurd (none_some e)
    go (some r) k e = rw (some_injective e) at (k r refl)

-- an entity's interface is the one that its declaration names
pub entity_interface : (f : File) (e : ℕ) {i : Interface} → interface_of f e ≡ some i
    → (x : Entity) × (get_elem? f.entities e ≡ some x) × (interface_named f x.interface.bytes ≡ some i)
unfolding interface_of
entity_interface f e {i} h = go (get_elem? f.entities e) h
  where
    go : (o : Option Entity) → interface_of_entity f o ≡ some i → (x : Entity) × (o ≡ some x) × (interface_named f x.interface.bytes ≡ some i)
    go none h = absurd (none_some h)
    go (some x) h = (x, refl, h)

pub within_counts : (f : File) → file_verdict f ≡ accepted f → WithinCounts f
unfolding interface_count_faults
within_counts f h =
    let c = counted f (accepted_faultless f h).counts in
    record {
      entities = within 32 (λ (e : Entity). e.at) f.entities c.2;
      members = λ e i q.
          let (x, p, n) = entity_interface f e q in
          within 12 (λ (m : Member). m.at) i.members (flatMap_empty interface_count_faults f.interfaces c.1 (named_interface f x.interface.bytes n));
    }

-- ---- priorities

given_few : (o : Option Priority) → given_faults o ≡ [] → priority_given o ≤ MOST_PRIORITY
unfolding given_faults number_faults fault_unless priority_given
given_few none h = omega arith
given_few (some k) h = go (leb k.number MOST_PRIORITY) refl h
  where
    go : (b : Bool) → leb k.number MOST_PRIORITY ≡ b → fault_unless b 44 k.at ≡ [] → k.number ≤ MOST_PRIORITY
    go true e h = leb-true k.number MOST_PRIORITY e
    go false e h = absurd (cons≢nil h)

pub priorities_few : (f : File) → file_verdict f ≡ accepted f → (r : Rule) (k : ℕ) → get_elem? f.rules k ≡ some r → priority_of r ≤ MOST_PRIORITY
unfolding priority_faults priority_of
priorities_few f h r k e =
    given_few r.priority (flatMap_empty (λ x. given_faults x.priority) f.rules (accepted_faultless f h).priorities (number_member f.rules k e))
