-- Where the name of an entity stands in the bench text.
use Rattle.std.specs.Prelude.{ℕ, ◌≤◌, ◌≡◌, List, length}
use Rattle.std.proofs.Math.Option.{Option, none, some}
use Rattle.text.specs.definitions.Syntax.{Name, Entity, File}
use Rattle.checking.specs.declared.names.Span.{Span}
use Rattle.checking.specs.definitions.Verdict.{accepted, verdict, entity_of}

-- no bytes, at 0
abbrev pub no_span : Span
no_span = record { at = 0; length = 0 }

-- the offset of a name's first byte, and how many it has
abbrev pub name_span : Name → Span
name_span n = record { at = n.at; length = length n.bytes }

unfoldable pub span_if_found : Option Entity → Span
span_if_found none = no_span
span_if_found (some e) = name_span e.name

-- "An entity's name, found by its number (from 0, file order), is a part of the bench text, empty if there is none or the text is refused"
unfoldable pub entity_span : List ℕ → ℕ → Span
unfolding span_if_found entity_of
entity_span text n = span_if_found (entity_of text n)

-- "there is none or the text is refused"
abbrev pub NoEntity : List ℕ → ℕ → Type 0
NoEntity text n = (f : File) → verdict text ≡ accepted f → length f.entities ≤ n
