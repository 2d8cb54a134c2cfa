-- Texts that are cut at each place of one byte: scripts into lines, lines into words.
use Rattle.std.specs.Prelude.{ℕ, ◌+◌, List, take, drop}
use Rattle.octets.specs.Search.{up_to}

-- what stands before the first c, or all where there is none
abbrev pub before : ℕ → List ℕ → List ℕ
before c t = take (up_to c t) t

-- what stands behind the first c, or nothing where there is none
abbrev pub behind : ℕ → List ℕ → List ℕ
behind c t = drop (up_to c t + 1) t
