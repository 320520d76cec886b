mod Examples
mod Budget
