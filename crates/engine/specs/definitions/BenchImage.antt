-- The bench image: 4 bytes of the text's length, the lowest first, then the text. So memory stands for a bench exactly if its text is accepted.
use Rattle.std.specs.Prelude.{ℕ, ◌+◌, List, [], ◌++◌, true, false, leb, length, take, drop}
use Rattle.std.proofs.Math.Option.{Option, none}
use Rattle.values.specs.definitions.Bytes.{word_at, low_first}
use Rattle.text.specs.definitions.Syntax.{File}
use Rattle.checking.specs.definitions.Verdict.{MOST_BYTES, accepted_file}
use Rattle.cycles.specs.definitions.Planes.{NUMBER_BYTES}

-- the stated size
abbrev pub BENCH : ℕ
BENCH = NUMBER_BYTES + MOST_BYTES

-- memory with a text's image written to it
unfoldable pub with_bench : List ℕ → List ℕ → List ℕ
with_bench text m = low_first NUMBER_BYTES (length text) ++ text ++ drop (NUMBER_BYTES + length text) m

-- the file that memory stands for, or none: 32: "memory is no checked bench", of memory of the stated size at least
unfoldable pub bench_of : List ℕ → Option File
unfolding accepted_file
bench_of m = elim (leb (word_at NUMBER_BYTES m 0) MOST_BYTES) [ true ↦ accepted_file (take (word_at NUMBER_BYTES m 0) (drop NUMBER_BYTES m)) | false ↦ none ]

-- the text that memory holds; the empty one, which no check accepts, where its length is too great
unfoldable pub text_in : List ℕ → List ℕ
text_in m = elim (leb (word_at NUMBER_BYTES m 0) MOST_BYTES) [ true ↦ take (word_at NUMBER_BYTES m 0) (drop NUMBER_BYTES m) | false ↦ [] ]
