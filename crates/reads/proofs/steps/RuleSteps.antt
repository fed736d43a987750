-- The sets of all rules, emptied and then filled rule by rule.
use Prim.Native.Nat.{ℕ, ◌+◌, ◌*◌, ◌/◌, ◌-◌, ◌≤◌, ◌<◌}
use native.Mathlib.Omega.{arith}
use mathlib.Core.Path.{◌≡◌, refl, sym, ap, ◌∙◌, subst}
use mathlib.Core.Bool.{Bool, true, false, ◌||◌}
use mathlib.Core.List.{List, ◌++◌, append_assoc}
use lib.Dec.{eqb}
use lib.ListN.{length, get_or, take, drop, replicate, get_or-append, length-replicate, get_or-replicate}
use lib.Seq.{drop_at, get_or-drop, length-take-le}
use borrow.Rule.Slice.PartMut.{put_mid}
use Rattle.values.proofs.laws.ByteLaws.{overwritten_below, overwritten_parts}
use Rattle.values.proofs.laws.PutLaws.{put_filled, put_length}
use borrow.Author.Tests.{eqb-true, eqb-false}
use Rattle.cell_sets.specs.inner_contracts.Meeting.{row_has}
use Rattle.cell_sets.proofs.laws.BitLaws.{has_bit_zero}
use Rattle.checking.specs.inner_contracts.Directory.{RULE_COUNT_ROW}
use Rattle.checking.specs.inner_contracts.Resolution.{Resolves}
use Rattle.cycles.specs.inner_contracts.ReadSets.{SCOPES_BYTES}
use Rattle.reads.specs.inner_contracts.ReadSteps.{set_start, set_has, ReadWorld, world_reads, RuleRead, Cleared, ReadsFound}
use Rattle.reads.specs.inner_contracts.RulesResolved.{RulesResolved}
use Rattle.reads.proofs.steps.SetSteps.{byte_below, same_set}
use Rattle.reads.proofs.steps.ScanSteps.{scopes_stay, world_in}

-- ---- empty sets

-- what `fill` leaves of them
pub sets_cleared : (l new : List ℕ) (k n : ℕ) → SCOPES_BYTES ≤ length l → n ≡ 3072 → k ≡ n → new ≡ replicate k 0 → Cleared l (put_mid 256 k l new)
sets_cleared l new k n room all e f =
    let p = put_filled l 256 n 0 new k (omega arith) e f in
    let size : length (replicate {A = ℕ} n 0) ≡ n = length-replicate {A = ℕ} n 0 in
    record {
      kept = put_length p;
      before = λ i h. ap (λ (t : List ℕ). get_or t i 0) p.is ∙ overwritten_below l 256 (replicate n 0) i h;
      empty = λ i h j.
          let z : 256 + (i - 256) ≡ i = omega arith in
          let parts = overwritten_parts l 256 (replicate n 0) (omega arith) in
          let front : length (take 256 l) ≡ 256 = length-take-le 256 l (omega arith) in
          ap (λ (m : ℕ). get_or (put_mid 256 k l new) m 0) (sym z)
          ∙ sym (get_or-drop 256 (put_mid 256 k l new) (i - 256) 0)
          ∙ ap (λ (t : List ℕ). get_or (drop 256 t) (i - 256) 0) (p.is ∙ parts ∙ append_assoc (take 256 l) (replicate n 0) (drop (256 + length (replicate n 0)) l))
          ∙ ap (λ (t : List ℕ). get_or t (i - 256) 0) (drop_at (take 256 l) (replicate n 0 ++ drop (256 + length (replicate n 0)) l) 256 front)
          ∙ get_or-append (replicate n 0) (drop (256 + length (replicate n 0)) l) 0 (i - 256) (omega arith)
          ∙ get_or-replicate n (i - 256) 0 0 (omega arith);
    }

-- ---- rule by rule

-- the sets of the rules below number k are filled, the others are empty
pub record Finding (classes d refs scopes : List ℕ) (k : ℕ) (new : List ℕ) : Type 0 where
  pub kept : length new ≡ length scopes
  pub before : (p : ℕ) → p < 256 → get_or new p 0 ≡ get_or scopes p 0
  pub done : (j : ℕ) → j < k → (c : ReadWorld classes d refs scopes j) (e m : ℕ) → e < 32 → m < 12 → set_has new j e m ≡ world_reads c e m
  pub ahead : (p : ℕ) → set_start k ≤ p → p < SCOPES_BYTES → get_or new p 0 ≡ 0

module _ {classes d refs scopes : List ℕ} where
  pub finding_starts : {before : List ℕ} → Cleared before scopes → Finding classes d refs scopes 0 scopes
  finding_starts c = record {
    kept = refl;
    before = λ p h. refl;
    done = λ j h. absurd (omega arith);
    ahead = λ p h l. c.empty p (omega arith) l;
  }

  pub finding_turns : {k : ℕ} {new newer : List ℕ} → k < 64 → Finding classes d refs scopes k new → RuleRead classes d refs k new newer
      → Finding classes d refs scopes (k + 1) newer
  unfolding row_has
  finding_turns {k} {new} {newer} low f r = record {
    kept = r.kept ∙ f.kept;
    before = λ p h. r.before p (omega arith) ∙ f.before p h;
    done = λ j h. filled j h (eqb j k) refl;
    ahead = λ p h l. r.after p (omega arith) ∙ f.ahead p (omega arith) l;
  }
    where
      empty : (e m : ℕ) → e < 32 → m < 12 → set_has new k e m ≡ false
      empty e m i l =
          let b = byte_below k e m i l in
          rw (f.ahead (set_start k + (e * 12 + m) / 8) (omega arith) (omega arith)) (has_bit_zero _)

      here : (c : ReadWorld classes d refs scopes k) (e m : ℕ) → e < 32 → m < 12 → set_has newer k e m ≡ world_reads c e m
      here c e m i l = r.is (world_in new c f.before) e m i l ∙ ap (λ (x : Bool). x || world_reads c e m) (empty e m i l)

      Filled : ℕ → Type 0
      Filled j = (c : ReadWorld classes d refs scopes j) (e m : ℕ) → e < 32 → m < 12 → set_has newer j e m ≡ world_reads c e m

      filled : (j : ℕ) → j < k + 1 → (t : Bool) → eqb j k ≡ t → Filled j
      filled j h true q = subst Filled (sym (eqb-true j k q)) here
      filled j h false q = λ c e m i l.
          let n = eqb-false j k q in
          let b = byte_below j e m i l in
          let below : j < k = omega (arith, n) in
          same_set new newer j e m (r.before (set_start j + (e * 12 + m) / 8) (omega arith)) ∙ f.done j below c e m i l

  -- what the memory was before the sets were emptied
  pub finding_ends : {before : List ℕ} → Cleared before scopes → {k : ℕ} {new : List ℕ} → Finding classes d refs scopes k new
      → ((j : ℕ) → j < get_or d RULE_COUNT_ROW 0 → j < 64 → j < k) → ReadsFound classes d refs before new
  finding_ends b f all = record {
    kept = f.kept ∙ b.kept;
    before = λ p h. f.before p h ∙ b.before p h;
    is = λ j c e m i l. f.done j (all j c.inside c.below) (world_in scopes c b.before) e m i l;
  }

-- ---- names and reads

pub rules_resolved : {text classes offsets lengths d refs scopes new_refs middle new_scopes : List ℕ} → SCOPES_BYTES ≤ length scopes
    → Resolves text classes offsets lengths d refs scopes new_refs middle → ReadsFound classes d new_refs middle new_scopes
    → RulesResolved text classes offsets lengths d refs scopes new_refs new_scopes
rules_resolved {text} {classes} {offsets} {lengths} {d} room r f = record {
  references = r.references;
  scopes_are = scopes_stay r.scopes_are f.before;
  reads_are = record {
    room = omega (arith, f.kept, r.scopes_kept);
    is = λ k h l c few e m i j. f.is k (record {
      text = text;
      offsets = offsets;
      lengths = lengths;
      references = r.references;
      scopes_are = r.scopes_are;
      inside = h;
      below = l;
      world = c;
      few = few;
    }) e m i j;
  };
  refs_kept = r.refs_kept;
  scopes_kept = f.kept ∙ r.scopes_kept;
}
