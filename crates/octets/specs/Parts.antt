-- Parts of some bytes, and rows of parts.
use Rattle.std.specs.Prelude.{ℕ, zero, suc, List, [], ◌++◌, take, drop}

-- n bytes from an offset on
abbrev pub cut : ℕ → ℕ → List ℕ → List ℕ
cut from n bs = take n (drop from bs)

-- part(0) ‖ … ‖ part(n - 1)
unfoldable pub row : ℕ → (ℕ → List ℕ) → List ℕ
row zero part = []
row (suc n) part = row n part ++ part n
