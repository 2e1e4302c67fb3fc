-- Frames that lie one after another in an array of bytes, cut at the starts that a second array
-- holds. A frame whose bounds are no part of the bytes is empty.
use Rattle.std.specs.Prelude.{cond, ◌&&◌, List, [], ◌∷◌, ◌++◌, ℕ, zero, suc, ◌+◌, ◌-◌, leb, length, get_or, take, drop}

-- the bytes of s from a on, before e
unfoldable pub part : List ℕ → ℕ → ℕ → List ℕ
part s a e = cond (leb a e && leb e (length s)) (take (e - a) (drop a s)) []

-- frame i, from its start to the next one's
abbrev pub frame_in : List ℕ → List ℕ → ℕ → List ℕ
frame_in bytes starts i = part bytes (get_or starts i 0) (get_or starts (i + 1) 0)

-- the first n frames
unfoldable pub frames_in : List ℕ → List ℕ → ℕ → List (List ℕ)
frames_in bytes starts zero = []
frames_in bytes starts (suc n) = frames_in bytes starts n ++ frame_in bytes starts n ∷ []
