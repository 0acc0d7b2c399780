-- The answers of a seeded network: 32-bit words of ChaCha with 8 rounds, whose key is the seed, by stream and place
-- (the layout with a 64-bit block counter and a 64-bit stream number).
use Rattle.std.specs.Prelude.{ℕ, ◌+◌, ◌*◌, ◌%◌, ◌^◌, Bool, List, nat_le}
use Rattle.rand_chacha.specs.ChaCha.{word_at, key_of}

-- The word at a place of a stream. Four double rounds are 8 rounds. Places are taken modulo 2^68, so each has a word.
abbrev pub word : List ℕ → ℕ → ℕ → ℕ
word seed stream place = word_at 4 (key_of seed) stream (place % 2 ^ 68)

-- The place of the word of an attempt at a part.
abbrev pub attempt_place : ℕ → ℕ → ℕ → ℕ → ℕ
attempt_place publisher seq part attempt =
    publisher * 2 ^ 53 + seq * 2 ^ 37 + part * 2 ^ 21 + attempt

-- An attempt passes where its word in the asker's stream is at least the loss, of a thousand.
abbrev pub seeded_passes : List ℕ → ℕ → ℕ → ℕ → ℕ → ℕ → ℕ → Bool
seeded_passes seed asker publisher seq part attempt loss =
    nat_le loss (word seed asker (attempt_place publisher seq part attempt) % 1000)

-- A member's draw `k` is word `k` in a stream of the member's own, after the streams of all askers.
abbrev pub seeded_draw : List ℕ → ℕ → ℕ → ℕ
seeded_draw seed member k = word seed (2 ^ 32 + member) k
