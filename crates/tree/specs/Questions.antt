-- Settings, the questions asked of them, and the two numbers that a level's cutting goes by:
-- document 01, 'Settings and tree', first paragraph, and 'Questions, in order', 1 to 6.
use Rattle.std.specs.Prelude.{Bool, cond, ◌&&◌, ℕ, ◌+◌, ◌*◌, ◌-◌, ◌/◌, ◌^◌, leb}
use Rattle.tree.specs.declared.Settings.{Settings}

-- "At level l (1 to L), h = M / p^l rounded down"
abbrev pub spacing : Settings → ℕ → ℕ
spacing σ l = σ.nominal / σ.fan_out ^ l

-- "and s = w × p^(L−l+1)"
abbrev pub modulus : Settings → ℕ → ℕ
modulus σ l = σ.window * σ.fan_out ^ (σ.levels - l + 1)

-- x lies from low to high.
abbrev pub within : ℕ → ℕ → ℕ → Bool
within low high x = leb low x && leb x high

-- A question: its number where the answer is no, else what the next ones say.
unfoldable pub ask : Bool → ℕ → ℕ → ℕ
ask passed number next = cond passed next number

-- 0, or the number of the first question that settings and a string of n bytes fail:
-- "1 w 2 to 12? 2 p 2 to 8? 3 L 1 to 4? 4 M from p^L to 65,536? 5 q 1 to 64? 6 string at most 65,536 bytes?"
unfoldable pub refusal : Settings → ℕ → ℕ
refusal σ n =
    ask (within 2 12 σ.window) 1
    (ask (within 2 8 σ.fan_out) 2
    (ask (within 1 4 σ.levels) 3
    (ask (within (σ.fan_out ^ σ.levels) 65536 σ.nominal) 4
    (ask (within 1 64 σ.width) 5
    (ask (leb n 65536) 6
    0)))))
